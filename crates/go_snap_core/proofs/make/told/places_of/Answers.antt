use Rattle.std.proofs.Common.{◌≡◌, ℕ, [], ◌++◌, get_or, sym, ap, ◌∙◌, append-nil}
use Rattle.std.specs.List.{cons_option}
use Rattle.std.proofs.lemmas.List.{get_or_default}
use Rattle.go_snap_core.specs.make.mirrors.Telling.{at_number}
use Rattle.go_snap_core.proofs.MakeTelling.{found_more}
use Rattle.go_snap_core.proofs.make.told.places_of.Goals.{in-Some+in_ok-add-in-Some, in-None}
use Rattle.go_snap_core.proofs.make.told.places_of.Goals as goal

pub loop-number-preserved : goal.loop-number-preserved
loop-number-preserved c =
    let numbers = c.args.numbers.now in
    let places = c.args.places.now in
    let i = c.loop-number.number-index in
    let lt = c.loop-number-test.true in
    let n : ℕ = get_or numbers i 0 in
    let old = c.loop-number.found.items in
    let at : c.place_at.result ≡ at_number places n = c.place_at.ensures in
    let is : n ≡ get_or numbers i n = get_or_default numbers i 0 n lt in
    elim c.match-place_at.branch [
      | in-Some+in_ok-add-in-Some w ↦
          found_more places numbers old c.match-place_at.found.items i n c.loop-number.invariant lt is
          (ap (λ v. v.items) w.found-is ∙ (w.in_ok-add-in-Some.ensures ∙ ap (λ o. old ++ cons_option o []) (sym w.in-Some.is ∙ at)))
      | in-None w ↦
          found_more places numbers old c.match-place_at.found.items i n c.loop-number.invariant lt is
          (ap (λ v. v.items) w.found-is ∙ (sym (append-nil old) ∙ ap (λ o. old ++ cons_option o []) (sym w.in-None.is ∙ at)))
    ]

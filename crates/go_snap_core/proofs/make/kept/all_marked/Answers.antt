use Rattle.std.proofs.Common.{◌≡◌, ◌≤◌, ℕ, true, false, Some, get_or, length, refl, ap, subst, ◌∙◌, arith}
use Rattle.std.proofs.lemmas.List.{get_or_default, take_all}
use Rattle.std.proofs.lemmas.Option.{slice_get-get_or}
use Rattle.go_snap_core.specs.make.mirrors.Marking.{AllMarked}
use Rattle.go_snap_core.proofs.MakeMarking.{marked_more}
use Rattle.go_snap_core.proofs.make.kept.all_marked.Goals as goal

pub loop-number-preserved : goal.loop-number-preserved
loop-number-preserved c =
    let numbers = c.args.numbers.now in
    let marks = c.args.marks.now in
    let i = c.loop-number.number-index in
    let lt = c.loop-number-test.true in
    let n : ℕ = get_or numbers i 0 in
    let mark : get_or marks n false ≡ true = c.if-not-marks-number.false in
    marked_more marks numbers i n lt (get_or_default numbers i 0 n lt) (slice_get-get_or marks n false (c.requires i 0 lt) ∙ ap Some mark) c.loop-number.invariant

pub returns : goal.returns
returns c =
    let numbers = c.args.numbers.now in
    let i = c.loop-number.number-index in
    let le : length numbers ≤ i = omega (arith, c.loop-number-test.false) in
    (λ yes. subst (AllMarked c.args.marks.now) (take_all i numbers le) c.loop-number.invariant, λ all. refl)

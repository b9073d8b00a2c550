use Rattle.std.proofs.Common.{◌≡◌, ℕ, List, Vec, Bor, ◌++◌, map, sym, ap, ◌∙◌}
use Rattle.std.specs.Prelude.{string_bytes}
use Rattle.std.specs.Global.{Global}
use Rattle.std.proofs.lemmas.List.{drop_all}
use Rattle.go_block_core.specs.Tables.{block_of, has, names_in, without}
use Rattle.go_block_core.proofs.TableLemmas.{all_listed, entry_of, left_at, name_kept, name_left_out}
use Rattle.go_block_core.proofs.table.names_without.Goals as goal
use Rattle.go_block_core.proofs.table.names_without.Goals.{then-not-has+in_ok-add, else-not-has}

pub loop-name-init : goal.loop-name-init
loop-name-init g c =
    let other = block_of c.args.other.now in
    ap (λ ns. map (λ n. n.now) ns ++ names_in (without other (map entry_of c.entries-name-items.result.now))) c.new-names.ensures.items ∙ ap (λ es. names_in (without other es)) c.entries-name-items.ensures

pub loop-name-preserved : goal.loop-name-preserved
loop-name-preserved g c =
    let e = c.loop-name-item.result in
    let other = block_of c.args.other.now in
    let old = c.loop-name.names.items in
    let items = λ (v : Vec (Bor (List ℕ)) Global). v.items in
    let step = left_at c.entries-name-items.result.now c.loop-name.name-index e c.loop-name-test.true c.loop-name-item.is in
    let named : has other (string_bytes e.0) ≡ c.has.result = ap (has other) (sym c.as_str-name.ensures.value) ∙ sym c.has.ensures in
    elim c.if-not-has.branch [
      | then-not-has+in_ok-add w ↦ name_kept other old _ _ e _ step (named ∙ w.if-not-has.true) _ c.as_str-name.result (ap items w.names-is ∙ w.in_ok-add.ensures) c.as_str-name.ensures.value c.loop-name.invariant
      | else-not-has w ↦ name_left_out other old _ _ e _ step (named ∙ w.if-not-has.false) _ (ap items w.names-is) c.loop-name.invariant
    ]

pub returns : goal.returns
returns g c = all_listed (map (λ n. n.now) c.loop-name.names.items) _ _ (ap (λ es. names_in (without (block_of c.args.other.now) (map entry_of es))) (drop_all c.loop-name.name-index c.entries-name-items.result.now c.loop-name-test.false)) c.loop-name.invariant

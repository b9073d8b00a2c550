use Rattle.std.proofs.Common.{List, ℕ, subst, sym, arith, get_or, take}
use Rattle.std.proofs.lemmas.List.{take_more}
use Rattle.go_digraph_core.specs.cycle.mirrors.Search.{MarksRow}
use Rattle.go_digraph_core.proofs.CycleMarks.{row_push}
use Rattle.go_digraph_core.proofs.cycle.reach.visit_row.Goals as goal

pub loop-place-preserved : goal.loop-place-preserved
loop-place-preserved c =
    let k : ℕ = get_or c.args.row.now c.loop-place.place-index 0 in
    let P : List ℕ → Type 0 = λ l. MarksRow c.args.edges.now l c.args.marks.now c.visit.new.marks c.args.stack.now.items c.visit.new.stack.items in
    subst P (sym (take_more c.args.row.now c.loop-place.place-index 0 c.loop-place-test.true))
    (row_push c.args.edges.now (take c.loop-place.place-index c.args.row.now) k c.args.marks.now c.loop-place.marks c.visit.new.marks c.args.stack.now.items c.loop-place.stack.items c.visit.new.stack.items c.loop-place.invariant
    (omega (arith, (c.requires.edges k (record { from = 0; to = 0 }) (c.requires.row c.loop-place.place-index 0 c.loop-place-test.true)).1))
    c.in_ok-visit.ensures)

use Rattle.std.proofs.Common.{take}
use Rattle.go_digraph_core.specs.cycle.mirrors.Search.{MarksRow}
use Rattle.go_digraph_core.proofs.cycle.reach.visit_row.Given as goal

abbrev pub invariant-loop-place : goal.invariant-loop-place
invariant-loop-place l = MarksRow l.edges (take l.place-index l.row) l.initial.marks l.marks l.initial.stack.items l.stack.items

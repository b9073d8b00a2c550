use Rattle.std.proofs.Common.{take}
use Rattle.go_type_core.specs.mirrors.Edges.{MarksTo}
use Rattle.go_type_core.proofs.looped.mark_loops.Given as goal

abbrev pub invariant-loop-edge : goal.invariant-loop-edge
invariant-loop-edge l = MarksTo l.edges (take l.edge-index l.edges) l.count l.marks.items

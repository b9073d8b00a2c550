use Rattle.std.proofs.Common.{◌≡◌, length, take}
use Rattle.go_digraph_core.specs.reach.mirrors.Filling.{AreMarksIn}
use Rattle.go_digraph_core.proofs.reach.graph.marks_on.Given as goal

abbrev pub invariant-loop-node : goal.invariant-loop-node
invariant-loop-node l = record { len : length l.marks.items ≡ l.count; marks : AreMarksIn (take l.node-index l.order) l.marks.items }

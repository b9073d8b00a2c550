use Rattle.std.proofs.Common.{◌+◌, length, not}
use Rattle.std.specs.List.{count_by}
use Rattle.go_digraph_core.proofs.CycleMarks.{Searches}
use Rattle.go_digraph_core.proofs.cycle.reach.mark_reached.Given as goal

abbrev pub invariant-loop-node : goal.invariant-loop-node
invariant-loop-node l = Searches l.edges l.start l.marks l.stack.items

abbrev pub decreases-loop-node : goal.decreases-loop-node
decreases-loop-node l = count_by (λ m. not m) l.marks + length l.stack.items

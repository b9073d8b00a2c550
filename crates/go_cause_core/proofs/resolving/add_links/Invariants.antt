use Rattle.std.proofs.Common.{length}
use Rattle.go_digraph_core.specs.cycle.Cycle.{InRange}
use Rattle.go_cause_core.proofs.resolving.add_links.Given as goal

abbrev pub invariant-loop-number : goal.invariant-loop-number
invariant-loop-number l = InRange (length l.faults) l.edges.items

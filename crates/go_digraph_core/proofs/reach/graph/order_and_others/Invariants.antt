use Rattle.go_digraph_core.specs.reach.mirrors.Filling.{Completes}
use Rattle.go_digraph_core.proofs.reach.graph.order_and_others.Given as goal

abbrev pub invariant-loop-node : goal.invariant-loop-node
invariant-loop-node l = Completes l.order l.count l.node l.nodes.items

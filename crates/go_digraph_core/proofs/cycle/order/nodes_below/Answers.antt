use Rattle.std.proofs.Common.{◌∙◌, ◌∷◌, ◌++◌, [], ap, sym, List, ℕ}
use Rattle.go_digraph_core.proofs.CyclePlaces.{range_more}
use Rattle.go_digraph_core.proofs.cycle.order.nodes_below.Goals as goal

pub loop-node-preserved : goal.loop-node-preserved
loop-node-preserved c = (c.in_ok-push.ensures.items ∙ ap (λ (l : List ℕ). l ++ c.loop-node.node ∷ []) c.loop-node.invariant) ∙ sym (range_more c.loop-node.node)

use Rattle.std.proofs.Common.{◌≡◌, ◌<◌, ℕ, length, get_or, All}
use Rattle.go_digraph_core.specs.reach.mirrors.Filling.{IsReachSetAt}
use Rattle.go_digraph_core.proofs.reach.graph.fill.Given as goal

abbrev pub invariant-loop-node : goal.invariant-loop-node
invariant-loop-node l = record {
  bound : All (λ s. s.bound ≡ length l.initial.sets) l.sets;
  done : (q : ℕ) → q < l.node-index → IsReachSetAt l.edges l.sets (get_or l.nodes q 0);
}

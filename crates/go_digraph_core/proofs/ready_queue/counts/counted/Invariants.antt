use Rattle.std.proofs.Common.{◌≡◌, ℕ, length, get_or, take, map}
use Rattle.go_digraph_core.specs.ready_queue.mirrors.Counting.{total}
use Rattle.go_digraph_core.proofs.ready_queue.counts.counted.Given as goal

abbrev pub invariant-loop-nodes : goal.invariant-loop-nodes
invariant-loop-nodes l = record {
  many : length l.missing.items ≡ l.count;
  each : (n : ℕ) → get_or l.missing.items n 0 ≡ total n (take l.nodes-index (map (λ r. r.items) l.needing));
}

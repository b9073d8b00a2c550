use Rattle.std.proofs.Common.{◌≡◌, ◌+◌, ℕ, length, get_or, take}
use Rattle.go_digraph_core.specs.ready_queue.mirrors.Counting.{times}
use Rattle.go_digraph_core.proofs.ready_queue.counts.count_up.Given as goal

abbrev pub invariant-loop-node : goal.invariant-loop-node
invariant-loop-node l = record {
  many : length l.missing.items ≡ length l.initial.missing.items;
  each : (n : ℕ) → get_or l.missing.items n 0 ≡ get_or l.initial.missing.items n 0 + times n (take l.node-index l.nodes);
}

use Rattle.std.proofs.Common.{◌≡◌, ◌≤◌, ◌+◌, ℕ, length, get_or, take, vec_capacity}
use Rattle.go_digraph_core.specs.ready_queue.mirrors.Counting.{AreQueued, times}
use Rattle.go_digraph_core.proofs.ready_queue.counts.release.Given as goal

abbrev pub invariant-loop-node : goal.invariant-loop-node
invariant-loop-node l = record {
  many : length l.counts.missing.items ≡ length l.marks;
  missing : (n : ℕ) → get_or l.counts.missing.items n 0 + times n (take l.node-index l.nodes) ≡ get_or l.initial.counts.missing.items n 0;
  queued : AreQueued l.marks l.counts.missing.items l.counts.queue.items;
  room : length l.marks ≤ vec_capacity l.counts.queue;
}

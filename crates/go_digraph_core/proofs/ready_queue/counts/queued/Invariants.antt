use Rattle.std.proofs.Common.{◌≤◌, length, vec_capacity}
use Rattle.go_digraph_core.proofs.ReadyQueueOwing.{AreQueuedTo}
use Rattle.go_digraph_core.proofs.ready_queue.counts.queued.Given as goal

abbrev pub invariant-loop-node : goal.invariant-loop-node
invariant-loop-node l = record {
  so_far : AreQueuedTo l.node l.marks l.missing l.queue.items;
  room : length l.marks ≤ vec_capacity l.queue;
}

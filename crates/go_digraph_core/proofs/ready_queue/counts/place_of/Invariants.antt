use Rattle.std.proofs.Common.{◌≡◌, take}
use Rattle.go_digraph_core.specs.ready_queue.mirrors.Counting.{times}
use Rattle.go_digraph_core.proofs.ready_queue.counts.place_of.Given as goal

abbrev pub invariant-loop-place : goal.invariant-loop-place
invariant-loop-place l = times l.node (take l.place l.queue) ≡ 0

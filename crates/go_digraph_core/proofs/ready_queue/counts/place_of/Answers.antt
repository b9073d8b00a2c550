use Rattle.std.proofs.Common.{arith, sym}
use Rattle.go_digraph_core.proofs.ReadyQueueTimes.{times_take_more, once-other}
use Rattle.go_digraph_core.proofs.ready_queue.counts.place_of.Goals as goal

pub loop-place-preserved : goal.loop-place-preserved
loop-place-preserved c = omega (arith, times_take_more c.args.node c.args.queue.now c.loop-place.place (omega arith), c.loop-place.invariant, once-other c.args.node _ (λ e. c.if-other-node.false (sym e)))

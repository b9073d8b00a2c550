use Rattle.std.specs.Vec.Iter.{into_iter_items}
use Rattle.go_parallel_core.proofs.Seeing.{done_more, next_own, next_reached}
use Rattle.go_parallel_core.proofs.worker.compile_share.Goals as goal

pub compile_next-requires-clause-none : goal.compile_next-requires-clause-none
compile_next-requires-clause-none c =
    next_own c.args.sight c.loop-input.parts.items (into_iter_items c.loop-input.input-iterator) (into_iter_items c.next.new.self) c.args.inputs.items c.loop-input.seen c.in-Some.input c.loop-input.invariant c.in-Some.ensures.steps.0

pub compile_next-requires-clause-all : goal.compile_next-requires-clause-all
compile_next-requires-clause-all c =
    next_reached c.args.sight c.loop-input.parts.items (into_iter_items c.loop-input.input-iterator) (into_iter_items c.next.new.self) c.args.inputs.items c.loop-input.seen c.in-Some.input c.loop-input.invariant c.in-Some.ensures.steps.0

pub loop-input-preserved : goal.loop-input-preserved
loop-input-preserved c =
    done_more c.args.sight c.loop-input.parts.items c.push.new.self.items (into_iter_items c.loop-input.input-iterator) (into_iter_items c.next.new.self) c.args.inputs.items c.loop-input.seen c.in_ok-made.made.1 c.in-Some.input c.in_ok-made.made.0
    c.loop-input.invariant c.in-Some.ensures.steps.0 c.in_ok-made.ensures.input c.in_ok-made.ensures.path c.in_ok-made.ensures.seen c.in_ok-push.ensures.items

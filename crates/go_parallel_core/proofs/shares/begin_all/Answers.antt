use Rattle.std.specs.Vec.Iter.{into_iter_items}
use Rattle.go_parallel_core.proofs.Cutting.{begun_more, share_held}
use Rattle.go_parallel_core.proofs.Seeing.{can_of}
use Rattle.go_parallel_core.proofs.shares.begin_all.Goals as goal

pub work_on-requires-clause-can : goal.work_on-requires-clause-can
work_on-requires-clause-can g c =
    can_of c.args.batch.now.parts c.in_ok-sight.sight c.in-Some.inputs.items c.in_ok-sight.ensures.next
    (share_held c.args.batch.now.parts c.args.made.now c.loop-inputs.works.items (into_iter_items c.loop-inputs.inputs-iterator) (into_iter_items c.next.new.self) c.args.shares.items c.loop-inputs.resting.items c.in-Some.inputs c.loop-inputs.invariant c.in-Some.ensures.steps.0)

pub loop-inputs-preserved : goal.loop-inputs-preserved
loop-inputs-preserved g c =
    begun_more c.args.batch.now.parts c.args.made.now c.loop-inputs.works.items c.push.new.self.items (into_iter_items c.loop-inputs.inputs-iterator) (into_iter_items c.next.new.self) c.args.shares.items c.loop-inputs.resting.items c.next_sight.new.resting.items
    c.in-Some.inputs c.in_ok-work.work c.loop-inputs.invariant c.in-Some.ensures.steps.0 c.in_ok-push.ensures.items c.in_ok-work.ensures.inputs c.in_ok-work.ensures.sound c.next_sight.ensures.left

use Rattle.std.specs.Vec.Iter.{into_iter_items}
use Rattle.std.proofs.Common.{length, refl}
use Rattle.go_parallel_core.proofs.Cutting.{ended_more, next_sound}
use Rattle.go_parallel_core.proofs.shares.end_all.Goals as goal

pub end-requires : goal.end-requires
end-requires g c =
    next_sound c.args.batch.now.parts c.args.made.now c.loop-work.all.items (into_iter_items c.loop-work.work-iterator) (into_iter_items c.next.new.self) c.args.works.items c.loop-work.resting.items c.in-Some.work c.loop-work.invariant c.in-Some.ensures.steps.0

pub loop-work-preserved : goal.loop-work-preserved
loop-work-preserved g c =
    ended_more c.args.batch.now.parts c.args.made.now c.loop-work.all.items c.append.new.self.items c.in_ok-done.done.parts.items (into_iter_items c.loop-work.work-iterator) (into_iter_items c.next.new.self) c.args.works.items c.loop-work.resting.items c.push.new.self.items
    c.in-Some.work _ c.in_ok-done.done.sight (length c.args.made.now) c.requires.made c.loop-work.invariant c.in-Some.ensures.steps.0 c.in_ok-done.ensures.parts c.in_ok-done.ensures.sight c.in_ok-append.ensures.items refl refl refl c.in_ok-push.ensures.items

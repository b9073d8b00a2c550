use Rattle.std.specs.Vec.Iter.{into_iter_items}
use Rattle.go_parallel_core.proofs.Cutting.{AreEnded}
use Rattle.go_parallel_core.proofs.shares.end_all.Given as goal

abbrev pub invariant-loop-work : goal.invariant-loop-work
invariant-loop-work g l = AreEnded l.batch.parts l.made l.all.items (into_iter_items l.work-iterator) l.fn.works.items l.resting.items

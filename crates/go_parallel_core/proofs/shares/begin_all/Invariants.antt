use Rattle.std.specs.Vec.Iter.{into_iter_items}
use Rattle.go_parallel_core.proofs.Cutting.{AreBegun}
use Rattle.go_parallel_core.proofs.shares.begin_all.Given as goal

abbrev pub invariant-loop-inputs : goal.invariant-loop-inputs
invariant-loop-inputs g l = AreBegun l.batch.parts l.made l.works.items (into_iter_items l.inputs-iterator) l.fn.shares.items l.resting.items

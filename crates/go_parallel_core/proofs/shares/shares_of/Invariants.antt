use Rattle.std.specs.Vec.Iter.{into_iter_items}
use Rattle.go_parallel_core.proofs.Cutting.{AreCut}
use Rattle.go_parallel_core.proofs.shares.shares_of.Given as goal

abbrev pub invariant-loop-input : goal.invariant-loop-input
invariant-loop-input l = AreCut l.shares.items l.next.items (into_iter_items l.input-iterator) l.fn.inputs.items

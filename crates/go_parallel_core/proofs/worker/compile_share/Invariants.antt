use Rattle.std.specs.Vec.Iter.{into_iter_items}
use Rattle.go_parallel_core.proofs.Seeing.{AreDone}
use Rattle.go_parallel_core.proofs.worker.compile_share.Given as goal

abbrev pub invariant-loop-input : goal.invariant-loop-input
invariant-loop-input l = AreDone l.fn.sight l.parts.items (into_iter_items l.input-iterator) l.fn.inputs.items l.seen

use Rattle.go_parallel_core.proofs.Handing.{AreHanded}
use Rattle.go_parallel_core.proofs.levels.hand_out_ready.Given as goal

abbrev pub invariant-loop-action : goal.invariant-loop-action
invariant-loop-action l = AreHanded l.initial.batch l.batch l.places.items l.inputs.items

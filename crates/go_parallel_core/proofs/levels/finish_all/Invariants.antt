use Rattle.go_parallel_core.proofs.Handing.{AreEnding}
use Rattle.go_parallel_core.proofs.levels.finish_all.Given as goal

abbrev pub invariant-loop-place : goal.invariant-loop-place
invariant-loop-place l = AreEnding l.initial.batch l.batch l.place-iterator.a.rest.now l.parts l.place-iterator.b.rest.now

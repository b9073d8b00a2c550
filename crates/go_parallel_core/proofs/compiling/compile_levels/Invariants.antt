use Rattle.std.proofs.Common.{◌≡◌}
use Rattle.go_parallel_core.specs.Seen.{AreSeers}
use Rattle.go_parallel_core.proofs.compiling.compile_levels.Given as goal

abbrev pub invariant-loop-level : goal.invariant-loop-level
invariant-loop-level g l = (l.batch.sources ≡ l.initial.batch.sources) × AreSeers l.batch.parts l.seers

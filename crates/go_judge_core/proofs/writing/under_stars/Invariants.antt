use Rattle.std.proofs.Common.{◌≡◌}
use Rattle.go_env_core.specs.handle_core.Stars.{starred}
use Rattle.go_judge_core.proofs.writing.under_stars.Given as goal

abbrev pub invariant-loop-star : goal.invariant-loop-star
invariant-loop-star l = l.found ≡ starred l._star l.fn.t

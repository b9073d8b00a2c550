use Rattle.std.proofs.Common.{◌<◌, length}
use Rattle.go_judge_core.proofs.judging.declare_locals.Given as goal

abbrev pub invariant-loop-back : goal.invariant-loop-back
invariant-loop-back l = 0 < length l.scopes.open_blocks

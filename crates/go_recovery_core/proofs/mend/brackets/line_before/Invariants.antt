use Rattle.std.proofs.Common.{◌≡◌}
use Rattle.go_recovery_core.specs.mend.Tokens.{line_before}
use Rattle.go_recovery_core.proofs.mend.brackets.line_before.Given as goal

abbrev pub invariant-loop-at : goal.invariant-loop-at
invariant-loop-at l = line_before l.tokens l.at ≡ line_before l.tokens l.number

abbrev pub decreases-loop-at : goal.decreases-loop-at
decreases-loop-at l = l.at

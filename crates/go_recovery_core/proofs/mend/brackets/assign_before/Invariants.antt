use Rattle.std.proofs.Common.{◌≡◌}
use Rattle.go_recovery_core.specs.mend.Tokens.{assign_before}
use Rattle.go_recovery_core.proofs.mend.brackets.assign_before.Given as goal

abbrev pub invariant-loop-at : goal.invariant-loop-at
invariant-loop-at l = assign_before l.tokens l.at ≡ assign_before l.tokens l.number

abbrev pub decreases-loop-at : goal.decreases-loop-at
decreases-loop-at l = l.at

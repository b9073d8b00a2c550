use Rattle.std.proofs.Common.{◌≡◌, ◌≤◌, ◌+◌}
use Rattle.go_recovery_core.specs.mend.Tokens.{open_before}
use Rattle.go_recovery_core.proofs.mend.brackets.open_before.Given as goal

abbrev pub invariant-loop-at : goal.invariant-loop-at
invariant-loop-at l = record { few : l.closed + l.at ≤ l.number; same : open_before l.tokens l.at l.closed ≡ open_before l.tokens l.number 0 }

abbrev pub decreases-loop-at : goal.decreases-loop-at
decreases-loop-at l = l.at

use Rattle.std.proofs.Common.{◌≡◌, ◌+◌, drop}
use Rattle.go_recovery_core.specs.standin.Lines.{before_newline, line_end}
use Rattle.go_recovery_core.proofs.standin.around.line_end.Given as goal

abbrev pub invariant-loop-at : goal.invariant-loop-at
invariant-loop-at l = l.at + before_newline (drop l.at l.bytes) ≡ line_end l.bytes l.offset

use Rattle.std.proofs.Common.{◌≡◌, ◌-◌, drop}
use Rattle.go_recovery_core.specs.standin.Lines.{line_start, start_from}
use Rattle.go_recovery_core.proofs.standin.around.line_start.Given as goal

abbrev pub invariant-loop-at : goal.invariant-loop-at
invariant-loop-at l = start_from l.start l.at (drop l.at l.bytes) (l.offset - l.at) ≡ line_start l.bytes l.offset

use Rattle.std.proofs.Common.{◌≡◌, drop}
use Rattle.go_recovery_core.specs.standin.Outlines.{begins_with}
use Rattle.go_recovery_core.proofs.standin.outline.begins_with.Given as goal

abbrev pub invariant-loop-at : goal.invariant-loop-at
invariant-loop-at l = begins_with (drop l.at l.word) (drop l.at l.bytes) ≡ begins_with l.word l.bytes

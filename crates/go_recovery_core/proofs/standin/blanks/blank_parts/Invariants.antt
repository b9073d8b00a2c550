use Rattle.std.proofs.Common.{◌≡◌, drop}
use Rattle.go_recovery_core.specs.standin.Blanks.{all_blanked}
use Rattle.go_recovery_core.proofs.standin.blanks.blank_parts.Given as goal

abbrev pub invariant-loop-part : goal.invariant-loop-part
invariant-loop-part l = all_blanked (drop l.part-index l.parts) l.bytes ≡ all_blanked l.parts l.fn.bytes

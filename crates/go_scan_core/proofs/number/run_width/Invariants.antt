use Rattle.std.proofs.Common.{◌≡◌, ◌+◌, drop}
use Rattle.go_scan_core.specs.mirrors.Numbers.{digits_run}
use Rattle.go_scan_core.proofs.number.run_width.Given as goal

abbrev pub invariant-loop-i : goal.invariant-loop-i
invariant-loop-i l = l.i + digits_run l.radix (drop l.i l.text) ≡ digits_run l.radix l.text

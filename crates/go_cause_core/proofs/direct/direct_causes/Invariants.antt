use Rattle.std.proofs.Common.{◌≡◌, ℕ, Some, length}
use Rattle.std.specs.List.{slice_get}
use Rattle.go_cause_core.specs.Causes.{IsDirect}
use Rattle.go_cause_core.proofs.direct.direct_causes.Given as goal

abbrev pub invariant-loop-number : goal.invariant-loop-number
invariant-loop-number l = record {
  len : length l.direct.items ≡ l.number;
  each : (i j : ℕ) → slice_get l.direct.items i ≡ Some (Some j) → IsDirect l.faults i j;
}

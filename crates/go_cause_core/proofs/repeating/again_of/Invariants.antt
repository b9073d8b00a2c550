use Rattle.std.proofs.Common.{◌≡◌, ℕ, Some, length}
use Rattle.std.specs.List.{slice_get}
use Rattle.go_cause_core.specs.Names.{IsAgain}
use Rattle.go_cause_core.proofs.repeating.again_of.Given as goal

abbrev pub invariant-loop-number : goal.invariant-loop-number
invariant-loop-number l = record {
  len : length l.again.items ≡ l.number;
  each : (i j : ℕ) → slice_get l.again.items i ≡ Some (Some j) → IsAgain l.faults i j;
}

use Rattle.std.proofs.Common.{◌≡◌, ◌<◌, ℕ, Some, length}
use Rattle.std.specs.List.{slice_get}
use Rattle.go_cause_core.proofs.resolving.next_notes.Given as goal

abbrev pub invariant-loop-number : goal.invariant-loop-number
invariant-loop-number l = record {
  len : length l.next.items ≡ l.number;
  each : (i j : ℕ) → slice_get l.next.items i ≡ Some (Some j) → j < length l.notes;
}

use Rattle.std.proofs.Common.{◌≡◌, ◌<◌, ℕ, Some, None, length, get_or}
use Rattle.std.specs.List.{slice_get}
use Rattle.go_cause_core.specs.Causes.{cause_at}
use Rattle.go_cause_core.proofs.rooting.roots.Given as goal

abbrev pub invariant-loop-number : goal.invariant-loop-number
invariant-loop-number l = record {
  len : length l.causes.items ≡ l.number;
  each : (i : ℕ) → i < l.number → slice_get l.causes.items i ≡ Some (cause_at i (get_or l.ends.items i None));
}

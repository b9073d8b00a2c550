use Rattle.std.proofs.Common.{◌≡◌, ℕ, ◌||◌, nat_eq, drop}
use Rattle.std.specs.HashSet.{contains}
use Rattle.go_body_core.specs.Ends.{panics_at}
use Rattle.go_body_core.proofs.panics.panic_offsets.Given as goal

abbrev pub invariant-loop-used : goal.invariant-loop-used
invariant-loop-used l = (offset : ℕ) → (contains nat_eq l.offsets offset || panics_at (drop l.used-index l.uses) offset) ≡ panics_at l.fn.uses offset

use Rattle.std.proofs.Common.{◌≡◌, ℕ, take, Some, true}
use Rattle.std.specs.Prelude.{Contains, slice_get}
use Rattle.go_batch_core.proofs.batch.any_marked.Given as goal

abbrev pub invariant-loop-number : goal.invariant-loop-number
invariant-loop-number l = (m : ℕ) → Contains (take l.number-index l.numbers) m → slice_get l.marks m ≡ Some true → ⊥

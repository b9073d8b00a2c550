use Rattle.std.proofs.Common.{◌≡◌, ◌⊎◌, ℕ, take, Some}
use Rattle.std.specs.List.{All, Contains, slice_get}
use Rattle.go_digraph_core.proofs.chain.follow.give_end.Given as goal

abbrev pub invariant-loop-number : goal.invariant-loop-number
invariant-loop-number l = record {
  given : All (λ i. slice_get l.ends i ≡ Some (Some l.end)) (take l.number-index l.way);
  kept : (i : ℕ) → (slice_get l.ends i ≡ slice_get l.initial.ends i) ⊎ (Contains l.way i × (slice_get l.ends i ≡ Some (Some l.end)));
}

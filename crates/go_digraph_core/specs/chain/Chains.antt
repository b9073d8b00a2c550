-- Chains of numbers of which each leads to one other at most.
use Rattle.std.specs.Prelude.{◌≡◌, ◌<◌, ℕ, List, [], ◌∷◌, Option, Some, None, length, slice_get}

-- what a number leads to is in the list
abbrev pub AllInside : List (Option ℕ) → Type 0
AllInside next = (i j : ℕ) → slice_get next i ≡ Some (Some j) → j < length next

-- the numbers on the path are those that the chain passes behind i, up to j
abbrev pub ChainLeads : List (Option ℕ) → ℕ → List ℕ → ℕ → Type 0
ChainLeads next i [] j = i ≡ j
ChainLeads next i (k ∷ path) j = (slice_get next i ≡ Some (Some k)) × ChainLeads next k path j

-- the chain from i ends at j: it leads to j, and j leads nowhere
abbrev pub EndsAt : List (Option ℕ) → ℕ → ℕ → Type 0
EndsAt next i j = (path : List ℕ) × ChainLeads next i path j × (slice_get next j ≡ Some None)

-- the end of each number's chain, and none where it has none
pub record AreEnds (next : List (Option ℕ)) (ends : List (Option ℕ)) : Type 0 where
  pub as_many : length ends ≡ length next
  pub ends_at : (i j : ℕ) → slice_get ends i ≡ Some (Some j) → EndsAt next i j
  pub endless : (i j : ℕ) → slice_get ends i ≡ Some None → EndsAt next i j → ⊥

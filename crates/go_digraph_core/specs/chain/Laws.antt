-- Laws of chains.
use Rattle.std.specs.Prelude.{◌≡◌, ◌↔◌, ◌<◌, ℕ, zero, suc, List, ◌∷◌, Option, Some, None, length, slice_get, slice_index_or}
use Rattle.go_digraph_core.specs.chain.Chains.{AllInside, AreEnds, ChainLeads, EndsAt}

-- a chain has one end at most
abbrev pub OneEnd : Type 0
OneEnd = (next : List (Option ℕ)) (i j k : ℕ) → EndsAt next i j → EndsAt next i k → j ≡ k

-- the chain from i passes j, and from there passes j again
abbrev pub ChainLeadsBack : List (Option ℕ) → ℕ → Type 0
ChainLeadsBack next i =
    (j : ℕ) × ((path : List ℕ) × ChainLeads next i path j) × ((follower : ℕ) × (path : List ℕ) × ChainLeads next j (follower ∷ path) j)

-- a chain without an end leads back
abbrev pub EndlessLeadsBack : Type 0
EndlessLeadsBack =
    (next : List (Option ℕ)) → AllInside next → (i : ℕ) → i < length next → ((j : ℕ) → EndsAt next i j → ⊥) → ChainLeadsBack next i

-- where the chain from i ends that goes on by what i leads to, after n steps at most; none where it goes on behind them, or leaves the list
abbrev pub end_within : ℕ → List (Option ℕ) → ℕ → Option (Option ℕ) → Option ℕ
end_within n next i None = None
end_within n next i (Some None) = Some i
end_within zero next i (Some (Some j)) = None
end_within (suc n) next i (Some (Some j)) = end_within n next j (slice_get next j)

abbrev pub counted_end : ℕ → List (Option ℕ) → ℕ → Option ℕ
counted_end n next i = end_within n next i (slice_get next i)

-- an end is reached in as many steps as there are numbers, or never
pub record EndsAreCounted : Type 0 where
  pub counted : (next : List (Option ℕ)) (i j : ℕ) → EndsAt next i j ↔ (counted_end (length next) next i ≡ Some j)
  pub listed : (next ends : List (Option ℕ)) → AreEnds next ends → (i : ℕ) → slice_index_or ends i None ≡ counted_end (length next) next i

-- How a table of values is filled.
use Rattle.std.specs.Prelude.{◌≡◌, ◌<◌, ◌⊎◌, ℕ, List, Option, Some, None, Contains, All, length, slice_index, slice_set}
use Rattle.go_digraph_core.specs.needs.Needs.{needed, IsEndless, EndsWithin, known_in}

-- a needed node has no value, or lies on a cycle with the node that needs it
abbrev pub IsMissing : {V : Type 0} → List ℕ → List (Option V) → ℕ → ℕ → Type 0
IsMissing ranks table a b = (slice_index ranks b ≡ slice_index ranks a) ⊎ (known_in table b ≡ None)

-- a needed node has a value, and lies on no cycle with the node that needs it
abbrev pub IsThere : {V : Type 0} → List ℕ → List (Option V) → ℕ → ℕ → Type 0
IsThere {V} ranks table a b = (slice_index ranks b ≡ slice_index ranks a → ⊥) × ((v : V) × (known_in table b ≡ Some v))

-- what becomes of the table at a node: it gets its value where all have one that it needs
abbrev pub IsStep : {V : Type 0} → List ℕ → List ℕ → ℕ → ((ℕ → Option V) → ℕ → V) → List (Option V) → List (Option V) → Type 0
IsStep ranks row a value old new =
    (All (IsThere ranks old a) row × (new ≡ slice_set old a (Some (value (known_in old) a))))
    ⊎ (((b : ℕ) × Contains row b × IsMissing ranks old a b) × (new ≡ old))

-- the table as far as it is made, for the first nodes of an order
pub record IsFilled (V : Type 0) (rows : List (List ℕ)) (value : (ℕ → Option V) → ℕ → V) (order : List ℕ) (i : ℕ) (table : List (Option V)) : Type 0 where
  pub as_many : length table ≡ length rows
  pub ends : (a : ℕ) (v : V) → known_in table a ≡ Some v → EndsWithin rows i a
  pub values : (a : ℕ) (v : V) → known_in table a ≡ Some v → v ≡ value (known_in table) a
  pub needs : (a : ℕ) (v : V) → known_in table a ≡ Some v → (b : ℕ) → Contains (needed rows a) b → (w : V) × (known_in table b ≡ Some w)
  pub endless : (j : ℕ) → j < i → known_in table (slice_index order j) ≡ None → IsEndless rows (slice_index order j)

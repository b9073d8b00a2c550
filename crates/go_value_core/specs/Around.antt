-- What leads back to itself.
use Rattle.std.specs.Prelude.{◌≡◌, ◌↔◌, ℕ, Bool, true, false, List, ◌∷◌, length, slice_index_or}
use Rattle.go_digraph_core.specs.needs.Needs.{NeedsLead}

-- what a node needs leads back to it
pub record LeadsBack (rows : List (List ℕ)) (a : ℕ) : Type 0 where
  pub first : ℕ
  pub around : List ℕ
  pub back : NeedsLead rows a (first ∷ around) a

-- for each node whether what it needs leads back to it
pub record AreLeadingBack (rows : List (List ℕ)) (flags : List Bool) : Type 0 where
  pub as_many : length flags ≡ length rows
  pub each : (a : ℕ) → (slice_index_or flags a false ≡ true) ↔ LeadsBack rows a

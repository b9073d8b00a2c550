-- Sets of names, as lists that have the same names.
use Rattle.std.specs.Prelude.{◌≡◌, ℕ, ◌&&◌, ◌||◌, List, ◌∷◌}
use Rattle.std.specs.Str.{bytes_eq}
use Rattle.go_denote_core.specs.composite.Repeats.{has_name, repeats}

-- the set has the names of the list
abbrev pub HasNames : List (List ℕ) → List (List ℕ) → Type 0
HasNames set names = (n : List ℕ) → has_name n set ≡ has_name n names

-- the set has the names that stand in the list more than once
abbrev pub HasRepeats : List (List ℕ) → List (List ℕ) → Type 0
HasRepeats set names = (n : List ℕ) → has_name n set ≡ repeats n names

-- a name is added to those seen; where it was there, to those seen again
pub record Notes (seen again : List (List ℕ)) (name : List ℕ) (seen' again' : List (List ℕ)) : Type 0 where
  pub has_seen : (n : List ℕ) → has_name n seen' ≡ has_name n (name ∷ seen)
  pub has_again : (n : List ℕ) → has_name n again' ≡ ((bytes_eq name n && has_name name seen) || has_name n again)

-- The names of those of a list that are kept.
use Rattle.std.specs.Prelude.{ℕ, Bool, true, false, List, [], ◌∷◌, ◌++◌}

abbrev pub named_if : Bool → List ℕ → List (List ℕ)
named_if true name = name ∷ []
named_if false name = []

abbrev pub kept_names : {X : Type 0} → (X → List ℕ) → (X → Bool) → List X → List (List ℕ)
kept_names name_of keeps [] = []
kept_names name_of keeps (x ∷ xs) = named_if (keeps x) (name_of x) ++ kept_names name_of keeps xs

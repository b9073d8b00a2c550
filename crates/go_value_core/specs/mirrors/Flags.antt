-- How it is found which needs lead back.
use Rattle.std.specs.Prelude.{ℕ, suc, Bool, ◌==◌, List, [], ◌∷◌, slice_index_or}
use Rattle.std.specs.List.{list_any}

-- one of the needed nodes has the rank of the node that needs it
abbrev pub has_own_rank : List ℕ → ℕ → List ℕ → Bool
has_own_rank ranks a row = list_any (λ b. slice_index_or ranks b 0 == slice_index_or ranks a 0) row

-- for each node from a number on
abbrev pub flags_from : List ℕ → ℕ → List (List ℕ) → List Bool
flags_from ranks a [] = []
flags_from ranks a (row ∷ rows) = has_own_rank ranks a row ∷ flags_from ranks (suc a) rows

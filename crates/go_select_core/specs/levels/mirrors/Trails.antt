-- Paths that are kept as links to shorter ones.
use Rattle.std.specs.Prelude.{◌≡◌, ◌≤◌, ℕ, List, [], ◌∷◌, ◌++◌, get_or, slice_get, Some}
use Rattle.go_select_core.specs.declared.levels.trails.Link.{Link}

-- the paths of links, behind those that are known
abbrev pub paths_from : List (List ℕ) → List Link → List (List ℕ)
paths_from known [] = known
paths_from known (l ∷ ls) = paths_from (known ++ (get_or known l.before [] ++ l.step ∷ []) ∷ []) ls

abbrev pub paths_of : List Link → List (List ℕ)
paths_of ls = paths_from ([] ∷ []) ls

-- each link leads to an earlier path
pub record Climbs (ls : List Link) : Type 0 where
  pub earlier : (n : ℕ) (l : Link) → slice_get ls n ≡ Some l → l.before ≤ n

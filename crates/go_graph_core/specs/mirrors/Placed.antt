-- Where paths stand in a list.
use Rattle.std.specs.Prelude.{ℕ, ◌+◌, List, [], ◌∷◌}

-- paths, each with its place, counted from a number
abbrev pub placed : ℕ → List (List ℕ) → List (List ℕ × ℕ)
placed n [] = []
placed n (path ∷ paths) = (path, n) ∷ placed (n + 1) paths

-- Spellings that stand in a list more than once.
use Rattle.std.specs.Prelude.{ℕ, ◌+◌, Bool, false, ◌||◌, List, [], ◌∷◌, ◌++◌, map, take, drop, if◌then◌else◌}
use Rattle.std.specs.Str.{bytes_eq}

-- a name stands in a list
abbrev pub has_name : List ℕ → List (List ℕ) → Bool
has_name name [] = false
has_name name (n ∷ ns) = bytes_eq n name || has_name name ns

-- a name stands in a list more than once
abbrev pub repeats : List ℕ → List (List ℕ) → Bool
repeats name [] = false
repeats name (n ∷ ns) = if bytes_eq n name then has_name name ns else repeats name ns

-- of each name of a list whether it stands there more than once
abbrev pub repeated : List (List ℕ) → List Bool
repeated names = map (λ name. repeats name names) names

-- a list without what stands at one place
abbrev pub others : List (List ℕ) → ℕ → List (List ℕ)
others names i = take i names ++ drop (i + 1) names

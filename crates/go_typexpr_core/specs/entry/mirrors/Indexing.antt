-- What a table of packages keeps beside what they show.
use Rattle.std.specs.Prelude.{◌≡◌, ℕ, ◌+◌, List, [], ◌∷◌, Option, map}
use Rattle.std.specs.Str.{bytes_eq}
use Rattle.std.specs.List.{position_from}
use Rattle.go_scope_core.specs.block_core.Exports.{ExportsModel}

-- the number of the first package of a path
abbrev pub number_of : List ExportsModel → List ℕ → Option ℕ
number_of ps path = position_from (bytes_eq path) 0 (map (λ p. p.path) ps)

-- paths with their numbers, counted from one of them
abbrev pub numbered : ℕ → List (List ℕ) → List (List ℕ × ℕ)
numbered n [] = []
numbered n (path ∷ paths) = (path, n) ∷ numbered (n + 1) paths

-- these are the paths of packages with their numbers
abbrev pub AreNumbered : List (List ℕ × ℕ) → List ExportsModel → Type 0
AreNumbered numbers ps = numbers ≡ numbered 0 (map (λ p. p.path) ps)

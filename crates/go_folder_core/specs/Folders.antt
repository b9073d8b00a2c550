-- Paths of folders and packages.
use Rattle.std.specs.Prelude.{ℕ, List, [], ◌∷◌, ◌++◌}

-- the one, a `/` and the other, or the one where the other is empty
abbrev pub joined_path : List ℕ → List ℕ → List ℕ
joined_path [] second = second
joined_path (b ∷ bs) [] = b ∷ bs
joined_path (b ∷ bs) (c ∷ cs) = (b ∷ bs) ++ (47 ∷ c ∷ cs)

-- Lists with numbers.
use Rattle.std.specs.Prelude.{ℕ, suc, List, [], ◌∷◌, ⊤}

-- R holds of each number, item and partner, where the numbers begin with this
abbrev pub AllNumbered : {A B : Type 0} → (ℕ → A → B → Type 0) → ℕ → List A → List B → Type 0
AllNumbered R k [] [] = ⊤
AllNumbered R k [] (y ∷ ys) = ⊥
AllNumbered R k (x ∷ xs) [] = ⊥
AllNumbered R k (x ∷ xs) (y ∷ ys) = R k x y × AllNumbered R (suc k) xs ys

-- What a loop over the rest of a list knows of it.
use Rattle.std.proofs.Common.{◌≡◌, ◌<◌, true, false, List, [], ◌∷◌, length, ◌==◌, refl, arith}

pub filled : {A : Type 0} (xs : List A) → false ≡ (length xs == 0) → 0 < length xs
filled [] h = cc
filled (x ∷ xs) h = omega arith

pub emptied : {A : Type 0} (xs : List A) → true ≡ (length xs == 0) → length xs ≡ 0
emptied [] h = refl
emptied (x ∷ xs) h = grind arith

-- Items of two lists that one map each brings to one list.
use Rattle.std.proofs.Common.{◌≡◌, ℕ, zero, suc, List, [], ◌∷◌, map, Some, refl}
use Rattle.std.specs.Prelude.{slice_get}
use Rattle.std.proofs.lemmas.Option.{none-some}

pub alike_at : {A B C : Type 0} (f : A → C) (g : B → C) (xs : List A) (ys : List B) (n : ℕ) (x : A) → map f xs ≡ map g ys → slice_get xs n ≡ Some x → (y : B) × (slice_get ys n ≡ Some y) × (f x ≡ g y)
alike_at f g [] ys n x same at = absurd (none-some x at)
alike_at f g (a ∷ xs) [] n x same at = absurd cc
alike_at f g (a ∷ xs) (b ∷ ys) zero x same at = (let here : a ≡ x = cc in let first : f a ≡ g b = cc in (b, refl, cc))
alike_at f g (a ∷ xs) (b ∷ ys) (suc n) x same at = (let rest : map f xs ≡ map g ys = cc in alike_at f g xs ys n x rest at)

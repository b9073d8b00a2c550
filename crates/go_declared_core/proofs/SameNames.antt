-- Lists that are compared by what they have at each place.
use Rattle.std.proofs.Common.{◌≡◌, ◌<◌, ◌+◌, ℕ, List, [], ◌∷◌, length, take, slice_get, Some, None, ap, sym, ◌∙◌, arith}
use Rattle.std.proofs.lemmas.List.{take_more_same}
use Rattle.std.proofs.lemmas.Option.{slice_get-get_or}

module _ {A : Type 0} where
  -- one more that is the same
  pub one_more : (xs ys : List A) (n : ℕ) → n < length xs → n < length ys → slice_get xs n ≡ slice_get ys n → take n xs ≡ take n ys → take (n + 1) xs ≡ take (n + 1) ys
  one_more [] ys n l m e t = absurd (omega (arith, l))
  one_more (x ∷ xs) ys n l m e t =
      take_more_same (x ∷ xs) ys n x l m t (ap (λ o. elim o [ None ↦ x | Some a ↦ a ]) (sym (slice_get-get_or (x ∷ xs) n x l) ∙ (e ∙ slice_get-get_or ys n x m)))

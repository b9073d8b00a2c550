-- Items of lists, by recursion.
use Rattle.std.proofs.Common.{◌≡◌, inl, inr, ℕ, suc, List, [], ◌∷◌, map, Some, refl, ap, ◌∙◌}
use Rattle.std.specs.Prelude.{slice_get}
use Rattle.go_body_core.specs.typexpr_core.EntryAmong.{Among}

-- an item has a number
pub among_at : {A : Type 0} (xs : List A) (x : A) → Among xs x → (k : ℕ) × (slice_get xs k ≡ Some x)
among_at [] x h = absurd h
among_at (y ∷ ys) x h = elim h [ inl e ↦ (0, ap Some e) | inr r ↦ (let k = among_at ys x r in (suc k.0, k.1)) ]

-- two lists are alike, so each item of the one has its like in the other
pub among_alike : {A B C : Type 0} (f : A → C) (g : B → C) (xs : List A) (ys : List B) → map f xs ≡ map g ys → (y : B) → Among ys y → (x : A) × Among xs x × (f x ≡ g y)
among_alike f g xs [] same y h = absurd h
among_alike f g [] (z ∷ ys) same y h = cc
among_alike f g (x ∷ xs) (z ∷ ys) same y h =
    let here : f x ≡ g z = cc in
    let rest : map f xs ≡ map g ys = cc in
    elim h [
      | inl e ↦ (x, inl refl, here ∙ ap g e)
      | inr r ↦ (let k = among_alike f g xs ys rest y r in (k.0, inr k.1, k.2))
    ]

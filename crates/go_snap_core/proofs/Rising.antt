-- Lists in a strict order, known by their members, and lists known by their partners.
use Rattle.std.proofs.Common.{◌≡◌, ◌<◌, ◌⊎◌, inl, inr, ℕ, List, [], ◌∷◌, refl, sym, ap, subst, ◌∙◌, arith}
use Rattle.std.specs.Prelude.{◌↔◌, AllPairs, Contains}
use Rattle.std.specs.List.{AllZip}
use Rattle.std.specs.List.Sorted.{IsStrictlyIncreasing}
use Rattle.std.proofs.lemmas.List.Kept.{AllPairs-from_increasing}
use Rattle.go_body_core.specs.typexpr_core.EntryAmong.{Among, among_from, among_to}
use Rattle.go_snap_core.proofs.WholeWorkspaceLists.{pairs_head, pairs_tail}

module _ {A : Type 0} (R : A → A → Type 0) (never_both : (x y : A) → R x y → R y x → ⊥) where
  first_same : (x y : A) (xs ys : List A) → AllPairs R (x ∷ xs) → AllPairs R (y ∷ ys) → (y ≡ x) ⊎ Among ys x → (x ≡ y) ⊎ Among xs y → x ≡ y
  first_same x y xs ys p q (inl e) k = sym e
  first_same x y xs ys p q (inr h) (inl e) = e
  first_same x y xs ys p q (inr h) (inr k) = absurd (never_both x y (pairs_head R x xs p y k) (pairs_head R y ys q x h))

  behind : (x y z : A) (xs ys : List A) → AllPairs R (x ∷ xs) → x ≡ y → Among xs z → (y ≡ z) ⊎ Among ys z → Among ys z
  behind x y z xs ys p same at (inl e) = absurd (let r : R z z = subst (λ w. R w z) (same ∙ e) (pairs_head R x xs p z at) in never_both z z r r)
  behind x y z xs ys p same at (inr h) = h

  -- two lists of the same members, in order, are one
  pub ordered_same : (xs ys : List A) → AllPairs R xs → AllPairs R ys → ((x : A) → Among xs x → Among ys x) → ((x : A) → Among ys x → Among xs x) → xs ≡ ys
  ordered_same [] [] p q to back = refl
  ordered_same [] (y ∷ ys) p q to back = absurd (back y (inl refl))
  ordered_same (x ∷ xs) [] p q to back = absurd (to x (inl refl))
  ordered_same (x ∷ xs) (y ∷ ys) p q to back =
      let same : x ≡ y = first_same x y xs ys p q (to x (inl refl)) (back y (inl refl)) in
      ap (λ z. z ∷ xs) same
      ∙ ap (λ l. y ∷ l)
      (ordered_same xs ys (pairs_tail R x xs p) (pairs_tail R y ys q) (λ z h. behind x y z xs ys p same h (to z (inr h))) (λ z h. behind y x z ys xs q (sym same) h (back z (inr h))))

pub one_rising : (xs ys : List ℕ) → IsStrictlyIncreasing xs → IsStrictlyIncreasing ys → ((m : ℕ) → Contains xs m ↔ Contains ys m) → xs ≡ ys
one_rising xs ys p q same =
    ordered_same (λ m n. m < n) (λ m n a b. omega (arith, a, b)) xs ys (AllPairs-from_increasing xs p) (AllPairs-from_increasing ys q)
    (λ m h. among_from ys m ((same m).0 (among_to xs m h))) (λ m h. among_from xs m ((same m).1 (among_to ys m h)))

-- partners are one, where each item has one
pub one_zip : {A B : Type 0} (R : A → B → Type 0) → ((a : A) (x y : B) → R a x → R a y → x ≡ y) → (zs : List A) (xs ys : List B) → AllZip R zs xs → AllZip R zs ys → xs ≡ ys
one_zip R once [] [] [] r s = refl
one_zip R once [] (x ∷ xs) ys r s = absurd r
one_zip R once [] [] (y ∷ ys) r s = absurd s
one_zip R once (a ∷ zs) [] ys r s = absurd r
one_zip R once (a ∷ zs) (x ∷ xs) [] r s = absurd s
one_zip R once (a ∷ zs) (x ∷ xs) (y ∷ ys) r s = ap (λ z. z ∷ xs) (once a x y r.0 s.0) ∙ ap (λ l. y ∷ l) (one_zip R once zs xs ys r.1 s.1)

-- A strictly sorted list is decided by its elements, and each list has one with its elements.
use Rattle.std.proofs.Common.{◌≡◌, ℕ, ◌<◌, zero, suc, ◌⊎◌, inl, inr, List, [], ◌∷◌, length, get_or, refl, sym, ap, subst, ◌∙◌, arith}
use Rattle.std.specs.Prelude.{Contains, ◌↔◌}
use Rattle.std.specs.Cmp.{IsTotalOrder}
use Rattle.std.specs.List.{AllByRecursion}
use Rattle.std.specs.List.Sorted.{IsStrictlySortedBy}
use Rattle.std.specs.Ordering.{ordering_reverse}
use Rattle.std.specs.declared.cmp.Ordering.{Ordering}
use Rattle.std.specs.declared.cmp.Ordering.TheVariants.{Less, Equal, Greater}
use Rattle.std.proofs.lemmas.Map.Keys.{Less-from_sorted}

module _ {K : Type 0} (c : K → K → Ordering) (total : IsTotalOrder c) where
  not_both : (x y : K) → c x y ≡ Less → c y x ≡ Less → ⊥
  not_both x y a b = (let e : Less ≡ Greater = sym a ∙ (total.antisymm x y ∙ ap ordering_reverse b) in cc)

  tail : (x : K) (xs : List K) → IsStrictlySortedBy c (x ∷ xs) → IsStrictlySortedBy c xs
  unfolding IsStrictlySortedBy
  tail x xs h = h.1

  -- the first is below the others
  below : (x : K) (xs : List K) (k : K) → IsStrictlySortedBy c (x ∷ xs) → Contains xs k → c x k ≡ Less
  below x xs k h at = subst (λ z. c x z ≡ Less) at.2 (Less-from_sorted c (x ∷ xs) 0 (suc at.0) k h (omega arith) (omega (arith, at.1)))

  at_or_behind : (x : K) (xs : List K) (k : K) (i : ℕ) → i < length (x ∷ xs) → get_or (x ∷ xs) i k ≡ k → (x ≡ k) ⊎ Contains xs k
  at_or_behind x xs k zero lt e = inl e
  at_or_behind x xs k (suc i) lt e = inr (i, omega (arith, lt), e)

  first_or_rest : (x : K) (xs : List K) (k : K) → Contains (x ∷ xs) k → (x ≡ k) ⊎ Contains xs k
  first_or_rest x xs k h = at_or_behind x xs k h.0 h.1 h.2

  first : (x : K) (xs : List K) → Contains (x ∷ xs) x
  first x xs = (0, (let lt : 0 < length (x ∷ xs) = omega arith in lt), refl)

  rest : (x : K) (xs : List K) (k : K) → Contains xs k → Contains (x ∷ xs) k
  rest x xs k h = (suc h.0, (let lt : suc h.0 < length (x ∷ xs) = omega (arith, h.1) in lt), h.2)

  -- what is behind the first of the one is behind that of the other
  in_rest : (x y : K) (xs ys : List K) → x ≡ y → IsStrictlySortedBy c (x ∷ xs) → ((k : K) → Contains (x ∷ xs) k → Contains (y ∷ ys) k) → (k : K) → Contains xs k → Contains ys k
  in_rest x y xs ys same sorted among k h = elim (first_or_rest y ys k (among k (rest x xs k h))) [
    | inl e ↦ (let less : c k k ≡ Less = subst (λ z. c z k ≡ Less) (same ∙ e) (below x xs k sorted h) in absurd (not_both k k less less))
    | inr r ↦ r
  ]

  pub same_sorted : (xs ys : List K) → IsStrictlySortedBy c xs → IsStrictlySortedBy c ys → ((k : K) → Contains xs k → Contains ys k) → ((k : K) → Contains ys k → Contains xs k) → xs ≡ ys
  same_sorted [] [] p q f g = refl
  same_sorted [] (y ∷ ys) p q f g = absurd (let h = g y (first y ys) in omega (arith, h.1))
  same_sorted (x ∷ xs) [] p q f g = absurd (let h = f x (first x xs) in omega (arith, h.1))
  same_sorted (x ∷ xs) (y ∷ ys) p q f g =
      let same : x ≡ y = elim (first_or_rest y ys x (f x (first x xs))) [
        | inl e ↦ sym e
        | inr later ↦ elim (first_or_rest x xs y (g y (first y ys))) [
          | inl e ↦ e
          | inr behind ↦ absurd (not_both y x (below y ys x q later) (below x xs y p behind))
        ]
      ] in
      ap (λ z. z ∷ xs) same ∙ ap (λ l. y ∷ l) (same_sorted xs ys (tail x xs p) (tail y ys q) (in_rest x y xs ys same p f) (in_rest y x ys xs (sym same) q g))

  empty : IsStrictlySortedBy c []
  unfolding IsStrictlySortedBy
  empty = tt

  -- in front of what it is below
  in_front : (x : K) (xs : List K) → ((k : K) → Contains xs k → c x k ≡ Less) → IsStrictlySortedBy c xs → IsStrictlySortedBy c (x ∷ xs)
  unfolding IsStrictlySortedBy
  in_front x xs less h = (each xs less, h)
    where
      each : (ys : List K) → ((k : K) → Contains ys k → c x k ≡ Less) → AllByRecursion (λ y. c x y ≡ Less) ys
      each [] f = tt
      each (y ∷ ys) f = (f y (first y ys), each ys (λ k at. f k (rest y ys k at)))

  -- a strictly sorted list with the elements of this one
  abbrev pub SortedOnce : List K → Type 0
  SortedOnce xs = (ys : List K) × IsStrictlySortedBy c ys × ((k : K) → Contains ys k ↔ Contains xs k)

  -- what is behind two first elements has the elements of a third list behind one of them
  both_behind : (x y : K) (ys zs : List K) → ((k : K) → Contains zs k ↔ Contains (x ∷ ys) k) → (k : K) → Contains (y ∷ zs) k ↔ Contains (x ∷ y ∷ ys) k
  both_behind x y ys zs same k = (
    (λ h. elim (first_or_rest y zs k h) [
      | inl e ↦ rest x (y ∷ ys) k (subst (Contains (y ∷ ys)) e (first y ys))
      | inr r ↦ elim (first_or_rest x ys k ((same k).0 r)) [
        | inl e ↦ subst (Contains (x ∷ y ∷ ys)) e (first x (y ∷ ys))
        | inr s ↦ rest x (y ∷ ys) k (rest y ys k s)
      ]
    ]),
    (λ h. elim (first_or_rest x (y ∷ ys) k h) [
      | inl e ↦ rest y zs k ((same k).1 (subst (Contains (x ∷ ys)) e (first x ys)))
      | inr r ↦ elim (first_or_rest y ys k r) [
        | inl e ↦ subst (Contains (y ∷ zs)) e (first y zs)
        | inr s ↦ rest y zs k ((same k).1 (rest x ys k s))
      ]
    ]),
  )

  module _ (means : (x y : K) → c x y ≡ Equal → x ≡ y) where
    put : (x : K) (ys : List K) → IsStrictlySortedBy c ys → SortedOnce (x ∷ ys)
    put x [] h = (x ∷ [], in_front x [] (λ k at. absurd (omega (arith, at.1))) h, λ k. ((λ at. at), (λ at. at)))
    put x (y ∷ ys) h = by (put x ys (tail y ys h)) (c x y) refl
      where
        by : SortedOnce (x ∷ ys) → (o : Ordering) → c x y ≡ o → SortedOnce (x ∷ y ∷ ys)
        by behind Less e = (
          x ∷ y ∷ ys,
          in_front x (y ∷ ys) (λ k at. elim (first_or_rest y ys k at) [
            | inl f ↦ subst (λ z. c x z ≡ Less) f e
            | inr r ↦ total.trans x y k e (below y ys k h r)
          ]) h,
          λ k. ((λ at. at), (λ at. at)),
        )
        by behind Equal e = (
          y ∷ ys,
          h,
          λ k. (
            (λ at. rest x (y ∷ ys) k at),
            (λ at. elim (first_or_rest x (y ∷ ys) k at) [
              | inl f ↦ subst (Contains (y ∷ ys)) (sym (means x y e) ∙ f) (first y ys)
              | inr r ↦ r
            ]),
          ),
        )
        by behind Greater e =
            let less : c y x ≡ Less = total.antisymm y x ∙ ap ordering_reverse e in (
              y ∷ behind.0,
              in_front y behind.0 (λ k at. elim (first_or_rest x ys k ((behind.2 k).0 at)) [
                | inl f ↦ subst (λ z. c y z ≡ Less) f less
                | inr r ↦ below y ys k h r
              ]) behind.1,
              both_behind x y ys behind.0 behind.2,
            )

    pub sorted_once : (xs : List K) → SortedOnce xs
    sorted_once [] = ([], empty, λ k. ((λ at. at), (λ at. at)))
    sorted_once (x ∷ xs) =
        let behind = sorted_once xs in
        let all = put x behind.0 behind.1 in (
          all.0,
          all.1,
          λ k. (
            (λ at. elim (first_or_rest x behind.0 k ((all.2 k).0 at)) [
              | inl e ↦ subst (Contains (x ∷ xs)) e (first x xs)
              | inr r ↦ rest x xs k ((behind.2 k).0 r)
            ]),
            (λ at. (all.2 k).1 (elim (first_or_rest x xs k at) [
              | inl e ↦ subst (Contains (x ∷ behind.0)) e (first x behind.0)
              | inr r ↦ rest x behind.0 k ((behind.2 k).1 r)
            ])),
          ),
        )

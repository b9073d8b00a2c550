-- Members of lists, by recursion.
use Rattle.std.proofs.Common.{◌≡◌, ◌⊎◌, inl, inr, ℕ, zero, suc, ◌<◌, Bool, true, false, cond, List, [], ◌∷◌, ◌++◌, length, get_or, filter, map, refl, sym, ap, ◌∙◌, subst, arith}
use Rattle.std.specs.Prelude.{AllPairs, Contains}
use Rattle.std.proofs.lemmas.List.Kept.{AllPairs-cons}

abbrev pub In : {A : Type 0} → List A → A → Type 0
In [] x = ⊥
In (y ∷ ys) x = (y ≡ x) ⊎ In ys x

pub in_at : {A : Type 0} (xs : List A) (k : ℕ) (d : A) → k < length xs → In xs (get_or xs k d)
in_at [] k d l = absurd (omega arith)
in_at (x ∷ xs) zero d l = inl refl
in_at (x ∷ xs) (suc k) d l = inr (in_at xs k d (omega arith))

pub in_contained : {A : Type 0} (xs : List A) (x : A) → Contains xs x → In xs x
in_contained xs x h = subst (In xs) h.2 (in_at xs h.0 x h.1)

pub contained_in : {A : Type 0} (xs : List A) (x : A) → In xs x → Contains xs x
contained_in [] x h = absurd h
contained_in (y ∷ ys) x (inl e) = (0, omega arith, e)
contained_in (y ∷ ys) x (inr h) = let r = contained_in ys x h in (suc r.0, omega (arith, r.1), r.2)

-- lists that are put together

pub in_front : {A : Type 0} (xs ys : List A) (x : A) → In xs x → In (xs ++ ys) x
in_front [] ys x h = absurd h
in_front (z ∷ xs) ys x (inl e) = inl e
in_front (z ∷ xs) ys x (inr h) = inr (in_front xs ys x h)

pub in_back : {A : Type 0} (xs ys : List A) (x : A) → In ys x → In (xs ++ ys) x
in_back [] ys x h = h
in_back (z ∷ xs) ys x h = inr (in_back xs ys x h)

pub in_either : {A : Type 0} (xs ys : List A) (x : A) → In (xs ++ ys) x → In xs x ⊎ In ys x
in_either [] ys x h = inr h
in_either (z ∷ xs) ys x (inl e) = inl (inl e)
in_either (z ∷ xs) ys x (inr h) = elim (in_either xs ys x h) [ inl a ↦ inl (inr a) | inr b ↦ inr b ]

-- what each item is made to

pub in_map : {A B : Type 0} (f : A → B) (xs : List A) (x : A) → In xs x → In (map f xs) (f x)
in_map f [] x h = absurd h
in_map f (y ∷ xs) x (inl e) = inl (ap f e)
in_map f (y ∷ xs) x (inr h) = inr (in_map f xs x h)

pub map_in : {A B : Type 0} (f : A → B) (xs : List A) (y : B) → In (map f xs) y → (x : A) × In xs x × (f x ≡ y)
map_in f [] y h = absurd h
map_in f (x ∷ xs) y (inl e) = (x, inl refl, e)
map_in f (x ∷ xs) y (inr h) = let r = map_in f xs y h in (r.0, inr r.1, r.2)

-- what a filter keeps

module _ {A : Type 0} (p : A → Bool) where
  pub in_filter : (xs : List A) (x : A) → In xs x → p x ≡ true → In (filter p xs) x
  in_filter [] x h t = absurd h
  in_filter (y ∷ ys) x (inl e) t = subst (λ b. In (cond b (y ∷ filter p ys) (filter p ys)) x) (sym (ap p e ∙ t)) (inl e)
  in_filter (y ∷ ys) x (inr h) t = by (p y) (in_filter ys x h t)
    where
      by : (b : Bool) → In (filter p ys) x → In (cond b (y ∷ filter p ys) (filter p ys)) x
      by true k = inr k
      by false k = k

  pub filter_in : (xs : List A) (x : A) → In (filter p xs) x → In xs x × (p x ≡ true)
  filter_in [] x h = absurd h
  filter_in (y ∷ ys) x h = by (p y) refl h (filter_in ys x)
    where
      by : (b : Bool) → p y ≡ b → In (cond b (y ∷ filter p ys) (filter p ys)) x → (In (filter p ys) x → In ys x × (p x ≡ true)) → In (y ∷ ys) x × (p x ≡ true)
      by true e (inl f) rest = (inl f, ap p (sym f) ∙ e)
      by true e (inr k) rest = let r = rest k in (inr r.0, r.1)
      by false e k rest = let r = rest k in (inr r.0, r.1)

-- lists in an order

module _ {A : Type 0} (R : A → A → Type 0) where
  abbrev pub Rises : List A → Type 0
  Rises [] = Unit {0}
  Rises (x ∷ xs) = ((y : A) → In xs y → R x y) × Rises xs

  pub pairs_rise : (xs : List A) → AllPairs R xs → Rises xs
  pairs_rise [] p = tt
  pairs_rise (x ∷ xs) p = (
    λ y h. let c = contained_in xs y h in let q : R x (get_or xs c.0 y) = p 0 (suc c.0) y (omega arith) (omega (arith, c.1)) in subst (λ z. R x z) c.2 q,
    pairs_rise xs (λ i j d low high. p (suc i) (suc j) d (omega arith) (omega arith)),
  )

  pub rising_pairs : (xs : List A) → Rises xs → AllPairs R xs
  rising_pairs [] r = λ i j d low high. absurd (omega arith)
  rising_pairs (x ∷ xs) r = AllPairs-cons R x xs (λ k d l. r.0 (get_or xs k d) (in_at xs k d l)) (rising_pairs xs r.1)

  -- a strict order
  module _ (never : (x : A) → R x x → ⊥) (onward : (x y z : A) → R x y → R y z → R x z) where
    first_same : (x y : A) (xs ys : List A) → Rises (x ∷ xs) → Rises (y ∷ ys) → In (y ∷ ys) x → In (x ∷ xs) y → x ≡ y
    first_same x y xs ys rx ry (inl e) k = sym e
    first_same x y xs ys rx ry (inr h) (inl e) = e
    first_same x y xs ys rx ry (inr h) (inr k) = absurd (never x (onward x y x (rx.0 y k) (ry.0 x h)))

    later : (x y z : A) (xs ys : List A) → Rises (x ∷ xs) → x ≡ y → In xs z → In (y ∷ ys) z → In ys z
    later x y z xs ys rx e h (inl f) = absurd (never x (subst (λ w. R x w) (sym (e ∙ f)) (rx.0 z h)))
    later x y z xs ys rx e h (inr k) = k

    -- two lists in order of the same members are the same
    pub rising_same : (xs ys : List A) → Rises xs → Rises ys → ((z : A) → In xs z → In ys z) → ((z : A) → In ys z → In xs z) → xs ≡ ys
    rising_same [] [] rx ry there back = refl
    rising_same [] (y ∷ ys) rx ry there back = absurd (back y (inl refl))
    rising_same (x ∷ xs) [] rx ry there back = absurd (there x (inl refl))
    rising_same (x ∷ xs) (y ∷ ys) rx ry there back =
        let e = first_same x y xs ys rx ry (there x (inl refl)) (back y (inl refl)) in
        let rest =
        rising_same xs ys rx.1 ry.1 (λ z h. later x y z xs ys rx e h (there z (inr h))) (λ z h. later y x z ys xs ry (sym e) h (back z (inr h)))
        in
        (cc)

    pub ordered_same : (xs ys : List A) → AllPairs R xs → AllPairs R ys → ((z : A) → Contains xs z → Contains ys z) → ((z : A) → Contains ys z → Contains xs z) → xs ≡ ys
    ordered_same xs ys p q there back =
        rising_same xs ys (pairs_rise xs p) (pairs_rise ys q) (λ z h. in_contained ys z (there z (contained_in xs z h))) (λ z h. in_contained xs z (back z (contained_in ys z h)))

-- Those of a list that something holds of.
use Rattle.std.proofs.Common.{◌≡◌, ℕ, zero, suc, ◌+◌, ◌<◌, ◌≤◌, ◌⊎◌, inl, inr, List, [], ◌∷◌, ◌++◌, length, get_or, map, take, Some, slice_get, refl, sym, ap, ◌∙◌, append-nil, append_assoc, subst, arith}
use Rattle.std.specs.Prelude.{◌↔◌, Contains}
use Rattle.std.specs.List.{AllByRecursion, flat_map}
use Rattle.std.specs.List.Sorted.{IsStrictlySortedBy}
use Rattle.std.specs.declared.cmp.Ordering.{Ordering}
use Rattle.std.specs.declared.cmp.Ordering.TheVariants.{Less}
use Rattle.std.proofs.lemmas.List.{take_all, take_more}
use Rattle.std.proofs.lemmas.Option.{get_or_from_slice_get, slice_get_within}
use Rattle.go_summary_core.specs.shown.Shown.{Picks}
use Rattle.go_summary_core.specs.shown.mirrors.Adding.{AddsPicked}

module _ {A : Type 0} (P : A → Type 0) where
  picks_append : (xs zs ys ws : List A) → Picks P xs ys → Picks P zs ws → Picks P (xs ++ zs) (ys ++ ws)
  picks_append [] zs ys ws h k = subst (λ (l : List A). Picks P zs (l ++ ws)) (sym h) k
  picks_append (x ∷ xs) zs ys ws (inl h) k = inl (h.0, picks_append xs zs ys ws h.1 k)
  picks_append (x ∷ xs) zs ys ws (inr h) k = inr (h.0, (h.1.0 ++ ws, ap (λ (l : List A). l ++ ws) h.1.1, picks_append xs zs h.1.0 ws h.1.2 k))

  pub adds_none : (xs : List A) → AddsPicked P [] xs xs
  adds_none xs = ([], sym (append-nil xs), refl)

  pub adds_one : (x : A) (old new : List A) → P x → new ≡ old ++ x ∷ [] → AddsPicked P (x ∷ []) old new
  adds_one x old new is e = (x ∷ [], e, inr (is, ([], refl, refl)))

  pub skips_one : (x : A) (old : List A) → ¬ P x → AddsPicked P (x ∷ []) old old
  skips_one x old not = ([], sym (append-nil old), inl (not, refl))

  pub adds_both : (xs ys a b c : List A) → AddsPicked P xs a b → AddsPicked P ys b c → AddsPicked P (xs ++ ys) a c
  adds_both xs ys a b c h k = (h.0 ++ k.0, k.1 ∙ (ap (λ (l : List A). l ++ k.0) h.1 ∙ append_assoc a h.0 k.0), picks_append xs ys h.0 k.0 h.2 k.2)

  pub adds_all : (xs new : List A) → AddsPicked P xs [] new → Picks P xs new
  adds_all xs new h = subst (λ (l : List A). Picks P xs l) (sym h.1) h.2

  -- what those are

  in_first : (x : A) (xs : List A) → Contains (x ∷ xs) x
  in_first x xs = (0, omega arith, refl)

  in_rest : (x : A) (xs : List A) (y : A) → Contains xs y → Contains (x ∷ xs) y
  in_rest x xs y h = (suc h.0, (let lt = h.1 in omega (arith, lt)), h.2)

  either : (x : A) (xs : List A) (y : A) → Contains (x ∷ xs) y → (x ≡ y) ⊎ Contains xs y
  either x xs y h = by h.0 h.1 h.2
    where
      by : (k : ℕ) → k < length (x ∷ xs) → get_or (x ∷ xs) k y ≡ y → (x ≡ y) ⊎ Contains xs y
      by zero lt e = inl e
      by (suc k) lt e = inr (k, omega (arith, lt), e)

  nothing : (y : A) → Contains [] y → ⊥
  nothing y h = (let lt = h.1 in omega (arith, lt))

  pub picked : (xs ys : List A) → Picks P xs ys → (y : A) → Contains ys y → Contains xs y × P y
  picked [] ys h y there = absurd (nothing y (subst (λ (l : List A). Contains l y) h there))
  picked (x ∷ xs) ys (inl h) y there = (let r = picked xs ys h.1 y there in (in_rest x xs y r.0, r.1))
  picked (x ∷ xs) ys (inr h) y there = elim (either x h.1.0 y (subst (λ (l : List A). Contains l y) h.1.1 there)) [
    | inl same ↦ (subst (λ (z : A). Contains (x ∷ xs) z) same (in_first x xs), subst P same h.0)
    | inr later ↦ (let r = picked xs h.1.0 h.1.2 y later in (in_rest x xs y r.0, r.1))
  ]

  pub picks_it : (xs ys : List A) → Picks P xs ys → (y : A) → Contains xs y → P y → Contains ys y
  picks_it [] ys h y there is = absurd (nothing y there)
  picks_it (x ∷ xs) ys (inl h) y there is = elim (either x xs y there) [
    | inl same ↦ absurd (h.0 (subst P (sym same) is))
    | inr later ↦ picks_it xs ys h.1 y later is
  ]
  picks_it (x ∷ xs) ys (inr h) y there is = subst (λ (l : List A). Contains l y) (sym h.1.1) (elim (either x xs y there) [
    | inl same ↦ subst (λ (z : A). Contains (x ∷ h.1.0) z) same (in_first x h.1.0)
    | inr later ↦ in_rest x h.1.0 y (picks_it xs h.1.0 h.1.2 y later is)
  ])

  pub picks_both : (xs ys : List A) → Picks P xs ys → (y : A) → Contains ys y ↔ (Contains xs y × P y)
  picks_both xs ys h y = (picked xs ys h y, λ k. picks_it xs ys h y k.0 k.1)

  -- they keep their order

  kept : (Q : A → Type 0) (xs ys : List A) → Picks P xs ys → AllByRecursion Q xs → AllByRecursion Q ys
  kept Q [] ys h all = subst (λ (l : List A). AllByRecursion Q l) (sym h) tt
  kept Q (x ∷ xs) ys (inl h) all = kept Q xs ys h.1 all.1
  kept Q (x ∷ xs) ys (inr h) all = subst (λ (l : List A). AllByRecursion Q l) (sym h.1.1) (all.0, kept Q xs h.1.0 h.1.2 all.1)

  pub picks_sorted : (c : A → A → Ordering) (xs ys : List A) → Picks P xs ys → IsStrictlySortedBy c xs → IsStrictlySortedBy c ys
  unfolding IsStrictlySortedBy
  picks_sorted c [] ys h sorted = subst (λ (l : List A). IsStrictlySortedBy c l) (sym h) tt
  picks_sorted c (x ∷ xs) ys (inl h) sorted = picks_sorted c xs ys h.1 sorted.1
  picks_sorted c (x ∷ xs) ys (inr h) sorted = subst (λ (l : List A). IsStrictlySortedBy c l) (sym h.1.1) (kept (λ y. c x y ≡ Less) xs h.1.0 h.1.2 sorted.0, picks_sorted c xs h.1.0 h.1.2 sorted.1)

  -- the items of the places of a list, one place after another

  module _ {B : Type 0} (f : B → List A) where
    flat_append : (xs ys : List B) → flat_map f (xs ++ ys) ≡ flat_map f xs ++ flat_map f ys
    flat_append [] ys = refl
    flat_append (x ∷ xs) ys = ap (λ (l : List A). f x ++ l) (flat_append xs ys) ∙ sym (append_assoc (f x) (flat_map f xs) (flat_map f ys))

    flat_one : (x : B) → flat_map f (x ∷ []) ≡ f x
    flat_one x = append-nil (f x)

    pub adds_more : (xs : List B) (i : ℕ) (x : B) (a b c : List A) → i < length xs → x ≡ get_or xs i x → AddsPicked P (flat_map f (take i xs)) a b → AddsPicked P (f x) b c → AddsPicked P (flat_map f (take (i + 1) xs)) a c
    adds_more xs i x a b c lt at h k =
        let e : take (i + 1) xs ≡ take i xs ++ x ∷ [] = take_more xs i x lt ∙ ap (λ (z : B). take i xs ++ z ∷ []) (sym at) in
        let flat : flat_map f (take (i + 1) xs) ≡ flat_map f (take i xs) ++ f x = ap (flat_map f) e ∙ (flat_append (take i xs) (x ∷ []) ∙ ap (λ (l : List A). flat_map f (take i xs) ++ l) (flat_one x)) in
        subst (λ (l : List A). AddsPicked P l a c) (sym flat) (adds_both (flat_map f (take i xs)) (f x) a b c h k)

    pub adds_them : (xs : List B) (i : ℕ) (a b : List A) → length xs ≤ i → AddsPicked P (flat_map f (take i xs)) a b → AddsPicked P (flat_map f xs) a b
    adds_them xs i a b end h = subst (λ (l : List B). AddsPicked P (flat_map f l) a b) (take_all i xs end) h

  module _ {B : Type 0} (f : B → A) where
    map_append : (xs ys : List B) → map f (xs ++ ys) ≡ map f xs ++ map f ys
    map_append [] ys = refl
    map_append (x ∷ xs) ys = ap (λ (l : List A). f x ∷ l) (map_append xs ys)

    pub adds_next : (xs : List B) (i : ℕ) (x : B) (a b c : List A) → i < length xs → x ≡ get_or xs i x → AddsPicked P (map f (take i xs)) a b → AddsPicked P (f x ∷ []) b c → AddsPicked P (map f (take (i + 1) xs)) a c
    adds_next xs i x a b c lt at h k =
        let e : take (i + 1) xs ≡ take i xs ++ x ∷ [] = take_more xs i x lt ∙ ap (λ (z : B). take i xs ++ z ∷ []) (sym at) in
        let mapped : map f (take (i + 1) xs) ≡ map f (take i xs) ++ f x ∷ [] = ap (map f) e ∙ map_append (take i xs) (x ∷ []) in
        subst (λ (l : List A). AddsPicked P l a c) (sym mapped) (adds_both (map f (take i xs)) (f x ∷ []) a b c h k)

    pub adds_at : (xs : List B) (i : ℕ) (x : B) (a b c : List A) → slice_get xs i ≡ Some x → AddsPicked P (map f (take i xs)) a b → AddsPicked P (f x ∷ []) b c → AddsPicked P (map f (take (i + 1) xs)) a c
    adds_at xs i x a b c at h k = adds_next xs i x a b c (slice_get_within xs i x at) (sym (get_or_from_slice_get xs i x x at)) h k

    pub adds_each : (xs : List B) (i : ℕ) (new : List A) → length xs ≤ i → AddsPicked P (map f (take i xs)) [] new → Picks P (map f xs) new
    adds_each xs i new end h = subst (λ (l : List B). Picks P (map f l) new) (take_all i xs end) (adds_all (map f (take i xs)) new h)

pub flat_mapped : {A B C : Type 0} (g : B → List C) (h : A → B) (xs : List A) → flat_map g (map h xs) ≡ flat_map (λ x. g (h x)) xs
flat_mapped g h [] = refl
flat_mapped g h (x ∷ xs) = ap (λ l. g (h x) ++ l) (flat_mapped g h xs)

-- Of a list whose items stand one behind another, those between two places.
use Rattle.std.proofs.Common.{◌≡◌, ℕ, zero, suc, ◌+◌, ◌<◌, ◌≤◌, ◌&&◌, Bool, true, false, cond, List, [], ◌∷◌, map, get_or, take, drop, filter, take_while, All, AllPairs, Some, nat_eq, nat_le, nat_lt, slice_get, refl, sym, ap, subst, ◌∙◌, arith}
use Rattle.std.specs.Prelude.{⊤}
use Rattle.std.specs.List.{prefix_len, position_from}
use Rattle.std.proofs.lemmas.Bool.{ltb-true, ltb-false, le-ltb, le-leb, lt-leb, eq-eqb, ne_eqb}
use Rattle.std.proofs.lemmas.Option.{get_or_from_slice_get, slice_get_within}

none_passes : {X : Type 0} (p : X → Bool) (xs : List X) → All (λ x. p x ≡ false) xs → prefix_len p xs ≡ 0
none_passes p [] h = refl
none_passes p (x ∷ xs) h = ap (λ (b : Bool). cond b (1 + prefix_len p xs) 0) (h 0 x (omega arith))

-- the items by their places
module _ {X : Type 0} (at : X → ℕ) where
  abbrev pub Rise : List X → Type 0
  Rise xs = AllPairs (λ (x y : X). at x < at y) xs

  pub above : (x : X) (xs : List X) → Rise (x ∷ xs) → All (λ y. at x < at y) xs
  above x xs h k d lt = h 0 (suc k) d (omega arith) (omega (arith, lt))

  pub behind : (x : X) (xs : List X) → Rise (x ∷ xs) → Rise xs
  behind x xs h i j d lt within = h (suc i) (suc j) d (omega (arith, lt)) (omega (arith, within))

  -- each from a place on, and behind those before it
  abbrev pub RiseFrom : ℕ → List X → Type 0
  RiseFrom low [] = ⊤
  RiseFrom low (x ∷ xs) = (low ≤ at x) × RiseFrom (suc (at x)) xs

  all_from : (xs : List X) (low : ℕ) → RiseFrom low xs → All (λ x. low ≤ at x) xs
  all_from [] low h k d lt = (let no : ⊥ = omega (arith, lt) in absurd no)
  all_from (x ∷ xs) low h zero d lt = h.0
  all_from (x ∷ xs) low h (suc k) d lt = (let far = all_from xs (suc (at x)) h.1 k d (omega (arith, lt)) in omega (arith, h.0, far))

  pub rises : (xs : List X) (low : ℕ) → RiseFrom low xs → Rise xs
  rises [] low h i j d lt within = (let no : ⊥ = omega (arith, within) in absurd no)
  rises (x ∷ xs) low h zero zero d lt within = (let no : ⊥ = omega (arith, lt) in absurd no)
  rises (x ∷ xs) low h zero (suc j) d lt within = (let far = all_from xs (suc (at x)) h.1 j d (omega (arith, within)) in omega (arith, far))
  rises (x ∷ xs) low h (suc i) zero d lt within = (let no : ⊥ = omega (arith, lt) in absurd no)
  rises (x ∷ xs) low h (suc i) (suc j) d lt within = rises xs (suc (at x)) h.1 i j d (omega (arith, lt)) (omega (arith, within))

  module _ (first last : ℕ) where
    abbrev early : X → Bool
    early x = nat_lt (at x) first

    abbrev inner : X → Bool
    inner x = nat_lt (at x) last

    abbrev between : X → Bool
    between x = nat_le first (at x) && nat_lt (at x) last

    -- what stands behind an item that is not before the one place is not before it either
    late_on : (x : X) (bound : ℕ) (xs : List X) → nat_lt (at x) bound ≡ false → All (λ y. at x < at y) xs → All (λ y. nat_lt (at y) bound ≡ false) xs
    late_on x bound xs late h k d lt = (let low = ltb-false (at x) bound late in let up = h k d lt in le-ltb (at (get_or xs k d)) bound (omega (arith, low, up)))

    abbrev cut : List X → List X
    cut xs = take_while inner (drop (prefix_len early xs) xs)

    none_between : (xs : List X) → All (λ y. inner y ≡ false) xs → filter between xs ≡ []
    none_between [] h = refl
    none_between (x ∷ xs) h = by (nat_le first (at x)) (none_between xs (λ k d lt. h (suc k) d (omega (arith, lt))))
      where
        by : (b : Bool) → filter between xs ≡ [] → cond (b && inner x) (x ∷ filter between xs) (filter between xs) ≡ []
        by true ih = ap (λ (t : Bool). cond t (x ∷ filter between xs) (filter between xs)) (h 0 x (omega arith)) ∙ ih
        by false ih = ih

    pub cut_between : (xs : List X) → Rise xs → cut xs ≡ filter between xs
    cut_between [] h = refl
    cut_between (x ∷ xs) h = by (early x) refl (cut_between xs (behind x xs h))
      where
        late : early x ≡ false → cut xs ≡ filter between xs → (b : Bool) → inner x ≡ b → take (cond b (1 + prefix_len inner xs) 0) (x ∷ xs) ≡ cond b (x ∷ filter between xs) (filter between xs)
        late e ih true i =
            let one : 1 + prefix_len inner xs ≡ suc (prefix_len inner xs) = omega arith in
            let start : prefix_len early xs ≡ 0 = none_passes early xs (late_on x first xs e (above x xs h)) in
            ap (λ (n : ℕ). take n (x ∷ xs)) one ∙ (ap (λ (n : ℕ). x ∷ take_while inner (drop n xs)) (sym start) ∙ ap (λ l. x ∷ l) ih)
        late e ih false i = sym (none_between xs (late_on x last xs i (above x xs h)))

        by : (b : Bool) → early x ≡ b → cut xs ≡ filter between xs → take_while inner (drop (cond b (1 + prefix_len early xs) 0) (x ∷ xs)) ≡ filter between (x ∷ xs)
        by true e ih =
            let one : 1 + prefix_len early xs ≡ suc (prefix_len early xs) = omega arith in
            let low = ltb-true (at x) first e in
            ap (λ (n : ℕ). take_while inner (drop n (x ∷ xs))) one ∙ (ih ∙ sym (ap (λ (t : Bool). cond (t && inner x) (x ∷ filter between xs) (filter between xs)) (lt-leb first (at x) low)))
        by false e ih =
            let low = ltb-false (at x) first e in
            late e ih (inner x) refl ∙ sym (ap (λ (t : Bool). cond (t && inner x) (x ∷ filter between xs) (filter between xs)) (le-leb first (at x) low))

  above_at : (x : X) (xs : List X) → Rise (x ∷ xs) → (k : ℕ) (y : X) → slice_get xs k ≡ Some y → at x < at y
  above_at x xs h k y e = subst (λ (z : X). at x < at z) (get_or_from_slice_get xs k y y e) (above x xs h k y (slice_get_within xs k y e))

  -- the item of a number is the first at its place, and the only one
  pub placed : {V : Type 0} (value : X → V) (xs : List X) → Rise xs → (k first : ℕ) (x : X) → slice_get xs k ≡ Some x → position_from (λ (e : ℕ × V). nat_eq (at x) e.0) first (map (λ y. (at y, value y)) xs) ≡ Some (first + k)
  placed {V = V} value [] h k first x e = cc
  placed {V = V} value (y ∷ ys) h zero first x e =
      let same : y ≡ x = cc in
      let sum : first ≡ first + 0 = omega arith in
      ap (λ (b : Bool). cond b (Some first) (position_from (λ (e : ℕ × V). nat_eq (at x) e.0) (first + 1) (map (λ z. (at z, value z)) ys))) (eq-eqb (at x) (at y) (ap at (sym same))) ∙ ap Some sum
  placed {V = V} value (y ∷ ys) h (suc k) first x e =
      let up : at y < at x = above_at y ys h k x e in
      let sum : first + 1 + k ≡ first + suc k = omega arith in
      ap (λ (b : Bool). cond b (Some first) (position_from (λ (e : ℕ × V). nat_eq (at x) e.0) (first + 1) (map (λ z. (at z, value z)) ys))) (ne_eqb (at x) (at y) (λ s. omega (arith, s, up))) ∙ (placed value ys (behind y ys h) k (first + 1) x e ∙ ap Some sum)

-- The names of what is kept of a list whose names rise.
use Rattle.std.proofs.Common.{◌≡◌, ℕ, zero, suc, ◌<◌, Bool, true, false, List, [], ◌∷◌, ◌++◌, length, get_or, refl, sym, ap, ◌∙◌, subst, arith, ◌⊎◌, inl, inr}
use Rattle.std.specs.Prelude.{◌↔◌, Contains}
use Rattle.std.specs.List.{AllPairs, AllByRecursion}
use Rattle.std.specs.List.Sorted.{IsStrictlySortedBy}
use Rattle.std.specs.declared.cmp.Ordering.TheVariants.{Less}
use Rattle.go_candidate_core.specs.after_dot.Names.{AreNames, by_bytes}
use Rattle.go_candidate_core.specs.after_dot.mirrors.Kept.{named_if, kept_names}

pub either : {A : Type 0} (x : A) (xs : List A) (y : A) → Contains (x ∷ xs) y → (x ≡ y) ⊎ Contains xs y
either {A} x xs y h = by h.0 h.1 h.2
  where
    by : (k : ℕ) → k < length (x ∷ xs) → get_or (x ∷ xs) k y ≡ y → (x ≡ y) ⊎ Contains xs y
    by zero lt e = inl e
    by (suc k) lt e = inr (k, omega (arith, lt), e)

pub in_first : {A : Type 0} (x : A) (xs : List A) → Contains (x ∷ xs) x
in_first x xs = (0, omega arith, refl)

pub in_rest : {A : Type 0} (x : A) (xs : List A) (y : A) → Contains xs y → Contains (x ∷ xs) y
in_rest x xs y h = (suc h.0, (let lt = h.1 in omega (arith, lt)), h.2)

pub nothing_in : {A : Type 0} (y : A) → Contains [] y → ⊥
nothing_in y h = (let lt = h.1 in omega (arith, lt))

module _ {X : Type 0} (name_of : X → List ℕ) (keeps : X → Bool) where
  abbrev pub IsBefore : X → X → Type 0
  IsBefore a b = by_bytes (name_of a) (name_of b) ≡ Less

  kept : (xs : List X) (m : List ℕ) → Contains (kept_names name_of keeps xs) m → (x : X) × Contains xs x × (name_of x ≡ m) × (keeps x ≡ true)
  kept [] m h = absurd (nothing_in m h)
  kept (x ∷ xs) m h = by (λ c. kept xs m c) (keeps x) refl h
    where
      later : (x' : X) × Contains xs x' × (name_of x' ≡ m) × (keeps x' ≡ true) → (x' : X) × Contains (x ∷ xs) x' × (name_of x' ≡ m) × (keeps x' ≡ true)
      later r = (r.0, in_rest x xs r.0 r.1, r.2, r.3)

      by : (Contains (kept_names name_of keeps xs) m → (x' : X) × Contains xs x' × (name_of x' ≡ m) × (keeps x' ≡ true)) → (b : Bool) → keeps x ≡ b → Contains (named_if b (name_of x) ++ kept_names name_of keeps xs) m → (x' : X) × Contains (x ∷ xs) x' × (name_of x' ≡ m) × (keeps x' ≡ true)
      by more true e c = elim (either (name_of x) (kept_names name_of keeps xs) m c) [
        | inl same ↦ (x, in_first x xs, same, e)
        | inr rest ↦ later (more rest)
      ]
      by more false e c = later (more c)

  keeps_it : (xs : List X) (x : X) → Contains xs x → keeps x ≡ true → Contains (kept_names name_of keeps xs) (name_of x)
  keeps_it [] x h e = absurd (nothing_in x h)
  keeps_it (y ∷ ys) x h e = elim (either y ys x h) [
    | inl same ↦ subst (λ (z : X). Contains (named_if (keeps y) (name_of y) ++ kept_names name_of keeps ys) (name_of z)) same (here (keeps y) (subst (λ (z : X). keeps z ≡ true) (sym same) e))
    | inr rest ↦ behind (keeps y) (keeps_it ys x rest e)
  ]
    where
      here : (b : Bool) → b ≡ true → Contains (named_if b (name_of y) ++ kept_names name_of keeps ys) (name_of y)
      here true e = in_first (name_of y) (kept_names name_of keeps ys)
      here false e = absurd (cc)

      behind : (b : Bool) → Contains (kept_names name_of keeps ys) (name_of x) → Contains (named_if b (name_of y) ++ kept_names name_of keeps ys) (name_of x)
      behind true h = in_rest (name_of y) (kept_names name_of keeps ys) (name_of x) h
      behind false h = h

  all_kept : (t : List ℕ) (xs : List X) → ((k : ℕ) (d : X) → k < length xs → by_bytes t (name_of (get_or xs k d)) ≡ Less) → AllByRecursion (λ y. by_bytes t y ≡ Less) (kept_names name_of keeps xs)
  all_kept t [] h = tt
  all_kept t (x ∷ xs) h = by (keeps x) (all_kept t xs (λ k d lt. h (suc k) d (omega (arith, lt))))
    where
      by : (b : Bool) → AllByRecursion (λ y. by_bytes t y ≡ Less) (kept_names name_of keeps xs) → AllByRecursion (λ y. by_bytes t y ≡ Less) (named_if b (name_of x) ++ kept_names name_of keeps xs)
      by true rest = (h 0 x (omega arith), rest)
      by false rest = rest

  rising : (xs : List X) → AllPairs IsBefore xs → IsStrictlySortedBy by_bytes (kept_names name_of keeps xs)
  unfolding IsStrictlySortedBy
  rising [] h = tt
  rising (x ∷ xs) h = by (keeps x) (rising xs (λ i j d low high. h (suc i) (suc j) d (omega (arith, low)) (omega (arith, high))))
    where
      by : (b : Bool) → IsStrictlySortedBy by_bytes (kept_names name_of keeps xs) → IsStrictlySortedBy by_bytes (named_if b (name_of x) ++ kept_names name_of keeps xs)
      by true rest = (all_kept (name_of x) xs (λ k d lt. h 0 (suc k) d (omega arith) (omega (arith, lt))), rest)
      by false rest = rest

  -- these are the names that pass, if what is kept passes and each name that passes is one of the list's
  pub are_names : (passes : List ℕ → Bool) (xs : List X) → AllPairs IsBefore xs → ((x : X) → Contains xs x → passes (name_of x) ≡ keeps x)
      → ((m : List ℕ) → passes m ≡ true → (x : X) × Contains xs x × (name_of x ≡ m)) → AreNames passes (kept_names name_of keeps xs)
  are_names passes xs order sound whole = record {
    rising = rising xs order;
    each = λ m. (
      (λ h. (let r = kept xs m h in subst (λ (n : List ℕ). passes n ≡ true) r.2 (sound r.0 r.1 ∙ r.3))),
      (λ e. (let r = whole m e in subst (λ (n : List ℕ). Contains (kept_names name_of keeps xs) n) r.2 (keeps_it xs r.0 r.1 (sym (sound r.0 r.1) ∙ (ap passes r.2 ∙ e))))),
    );
  }

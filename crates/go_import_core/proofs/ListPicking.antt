-- Numbers of which something is true, rising.
use Rattle.std.proofs.Common.{◌≡◌, ℕ, ◌+◌, ◌<◌, ◌≤◌, inl, inr, Bool, true, false, List, [], ◌∷◌, ◌++◌, length, get_or, refl, sym, subst, arith}
use Rattle.std.specs.Prelude.{◌↔◌, Contains, IsTrue, if◌then◌else◌}
use Rattle.std.specs.List.Sorted.{IsStrictlyIncreasing}
use Rattle.std.proofs.lemmas.Bool.{cases_lt}
use Rattle.std.proofs.lemmas.List.{get_or_append_left, get_or_push, length-append}
use Rattle.std.proofs.lemmas.List.Elements.{Contains-append_left, Contains-get_or, Contains-push, Contains-push_cases}

-- those below a bound of which P holds
pub record AreThose (P : ℕ → Type 0) (bound : ℕ) (xs : List ℕ) : Type 0 where
  pub rising : IsStrictlyIncreasing xs
  pub below : (n : ℕ) → Contains xs n → n < bound
  pub each : (n : ℕ) → Contains xs n → P n
  pub all : (n : ℕ) → n < bound → P n → Contains xs n

rising_push : (xs : List ℕ) (n : ℕ) → IsStrictlyIncreasing xs → ((m : ℕ) → Contains xs m → m < n) → IsStrictlyIncreasing (xs ++ n ∷ [])
rising_push xs n up low k lt =
    let long : length (xs ++ n ∷ []) ≡ length xs + 1 = length-append xs (n ∷ []) in
    elim (cases_lt (k + 1) (length xs)) [
      | inl inside ↦
          let a : get_or (xs ++ n ∷ []) k 0 ≡ get_or xs k 0 = get_or_append_left xs (n ∷ []) 0 k (omega (arith, inside)) in
          let b : get_or (xs ++ n ∷ []) (k + 1) 0 ≡ get_or xs (k + 1) 0 = get_or_append_left xs (n ∷ []) 0 (k + 1) inside in
          let c : get_or xs k 0 < get_or xs (k + 1) 0 = up k inside in
          omega (arith, a, b, c)
      | inr last ↦
          let end : length xs ≡ k + 1 = omega (arith, long, lt, last) in
          let a : get_or (xs ++ n ∷ []) k 0 ≡ get_or xs k 0 = get_or_append_left xs (n ∷ []) 0 k (omega (arith, end)) in
          let b : get_or (xs ++ n ∷ []) (k + 1) 0 ≡ n = get_or_push xs n 0 (k + 1) end in
          let c : get_or xs k 0 < n = low (get_or xs k 0) (Contains-get_or xs k 0 (omega (arith, end))) in
          omega (arith, a, b, c)
    ]

none_in : (n : ℕ) → Contains [] n → ⊥
none_in n h = omega (arith, h.1)

pub those_none : (P : ℕ → Type 0) → AreThose P 0 []
those_none P = record {
  rising = λ k lt. absurd (omega (arith, lt));
  below = λ n h. absurd (none_in n h);
  each = λ n h. absurd (none_in n h);
  all = λ n lt is. absurd (omega (arith, lt));
}

pub those_push : (P : ℕ → Type 0) (n : ℕ) (xs : List ℕ) → P n → AreThose P n xs → AreThose P (n + 1) (xs ++ n ∷ [])
those_push P n xs here h = record {
  rising = rising_push xs n h.rising h.below;
  below = λ m there. elim (Contains-push_cases xs n m there) [ inl old ↦ (let lt = h.below m old in omega (arith, lt)) | inr same ↦ omega (arith, same) ];
  each = λ m there. elim (Contains-push_cases xs n m there) [ inl old ↦ h.each m old | inr same ↦ subst P same here ];
  all = λ m lt is. elim (cases_lt m n) [
    | inl less ↦ Contains-append_left xs (n ∷ []) m (h.all m less is)
    | inr upto ↦ (let same : n ≡ m = omega (arith, lt, upto) in subst (λ (k : ℕ). Contains (xs ++ n ∷ []) k) same (Contains-push xs n))
  ];
}

pub those_skip : (P : ℕ → Type 0) (n : ℕ) (xs : List ℕ) → ¬ P n → AreThose P n xs → AreThose P (n + 1) xs
those_skip P n xs not h = record {
  rising = h.rising;
  below = λ m there. (let lt = h.below m there in omega (arith, lt));
  each = h.each;
  all = λ m lt is. elim (cases_lt m n) [
    | inl less ↦ h.all m less is
    | inr upto ↦ (let same : m ≡ n = omega (arith, lt, upto) in absurd (not (subst P same is)))
  ];
}

pub those_next : (P : ℕ → Type 0) (n : ℕ) (xs ys : List ℕ) (b : Bool) → IsTrue b ↔ P n → ys ≡ (if b then xs ++ n ∷ [] else xs) → AreThose P n xs → AreThose P (n + 1) ys
those_next P n xs ys b is made h = subst (λ (l : List ℕ). AreThose P (n + 1) l) (sym made) (by b is)
  where
    by : (b : Bool) → IsTrue b ↔ P n → AreThose P (n + 1) (if b then xs ++ n ∷ [] else xs)
    by true e = those_push P n xs (e.0 refl) h
    by false e = those_skip P n xs (λ p. (let no : false ≡ true = e.1 p in cc)) h

-- those below a count of which all that P holds of are below it
pub those_all : (P : ℕ → Type 0) (count n : ℕ) (xs : List ℕ) → count ≤ n → ((m : ℕ) → P m → m < count) → AreThose P n xs → (m : ℕ) → Contains xs m ↔ P m
those_all P count n xs end bound h m = (h.each m, λ is. (let lt = bound m is in h.all m (omega (arith, lt, end)) is))

-- What the set of words has.
use Rattle.std.proofs.Common.{◌≡◌, ℕ, ◌+◌, ◌<◌, ◌↔◌, inl, inr, Bool, true, false, cond, List, [], ◌∷◌, ◌++◌, get_or, filter, All, Contains, sym, ◌∙◌, ap, subst, arith, zero, suc}
use Rattle.std.specs.List.{range_with_len}
use Rattle.std.specs.List.Sorted.{IsStrictlyIncreasing}
use Rattle.std.proofs.lemmas.Bool.{cases_lt}
use Rattle.std.proofs.lemmas.List.{append-nil}
use Rattle.std.proofs.lemmas.List.Elements.{All-contains, All-filter, All-contains_itself, Contains-get_or, Contains-append_left, Contains-push, filter-append, filter_passes}
use Rattle.std.proofs.lemmas.List.FromFn.{get_or-range_with_len, length-range_with_len}
use Rattle.std.proofs.lemmas.List.Kept.{IsStrictlyIncreasing-filter}
use Rattle.go_digraph_core.proofs.CyclePlaces.{range_more}
use Rattle.go_digraph_core.specs.reach.mirrors.Words.{has_bit, numbers_of}

-- the numbers below a bound that pass a test
abbrev pub kept : (ℕ → Bool) → ℕ → List ℕ
kept p n = filter p (range_with_len 0 n)

pub kept_more : (p : ℕ → Bool) (n : ℕ) → kept p (n + 1) ≡ kept p n ++ cond (p n) (n ∷ []) []
kept_more p n = ap (filter p) (range_more n) ∙ filter-append p (range_with_len 0 n) (n ∷ [])

pub kept_here : (p : ℕ → Bool) (n : ℕ) → p n ≡ true → kept p (n + 1) ≡ kept p n ++ n ∷ []
kept_here p n e = kept_more p n ∙ ap (λ b. kept p n ++ cond b (n ∷ []) []) e

pub kept_other : (p : ℕ → Bool) (n : ℕ) → p n ≡ false → kept p (n + 1) ≡ kept p n
kept_other p n e = kept_more p n ∙ (ap (λ b. kept p n ++ cond b (n ∷ []) []) e ∙ append-nil (kept p n))

range_below : (n k : ℕ) → Contains (range_with_len 0 n) k → k < n
range_below n k h =
    let lt : h.0 < n = omega (arith, h.1, length-range_with_len 0 n) in
    omega (arith, lt, get_or-range_with_len 0 n h.0 k lt, h.2)

-- what is kept lies below the bound and passes the test
pub kept_is : (p : ℕ → Bool) (n k : ℕ) → Contains (kept p n) k → (k < n) × (p k ≡ true)
kept_is p n k h = (
  range_below n k (All-contains (Contains (range_with_len 0 n)) (kept p n) k (All-filter p (Contains (range_with_len 0 n)) (range_with_len 0 n) (All-contains_itself (range_with_len 0 n))) h),
  All-contains (λ x. p x ≡ true) (kept p n) k (filter_passes p (range_with_len 0 n)) h,
)

-- and what does so is kept
pub is_kept : (p : ℕ → Bool) (n k : ℕ) → k < n → p k ≡ true → Contains (kept p n) k
is_kept p zero k lt e = absurd (omega (arith, lt))
is_kept p (suc n) k lt e =
    let m : n + 1 ≡ suc n = omega arith in
    let P : ℕ → Type 0 = λ i. Contains (kept p i) k in
    subst P m (elim (cases_lt k n) [
      | inl below ↦ (let C : List ℕ → Type 0 = λ l. Contains l k in subst C (sym (kept_more p n)) (Contains-append_left (kept p n) (cond (p n) (n ∷ []) []) k (is_kept p n k below e)))
      | inr here ↦
          let same : k ≡ n = omega (arith, lt, here) in
          let C : List ℕ → Type 0 = λ l. Contains l k in
          let D : ℕ → Type 0 = λ i. Contains (kept p n ++ i ∷ []) k in
          subst C (sym (kept_here p n (ap p (sym same) ∙ e))) (subst D same (Contains-push (kept p n) k))
    ])

-- the members of the set of words
pub in_numbers : (bound : ℕ) (words : List ℕ) (k : ℕ) → Contains (numbers_of bound words).members k ↔ ((k < bound) × (has_bit words k ≡ true))
in_numbers bound words k = (kept_is (has_bit words) bound k, (λ h. is_kept (has_bit words) bound k h.0 h.1))

range_rises : (n : ℕ) → IsStrictlyIncreasing (range_with_len 0 n)
range_rises n k h =
    let lt : k + 1 < n = omega (arith, h, length-range_with_len 0 n) in
    let lt' : k < n = omega (arith, lt) in
    omega (arith, get_or-range_with_len 0 n k 0 lt', get_or-range_with_len 0 n (k + 1) 0 lt)

pub numbers_rise : (bound : ℕ) (words : List ℕ) → IsStrictlyIncreasing (numbers_of bound words).members
numbers_rise bound words = IsStrictlyIncreasing-filter (has_bit words) (range_with_len 0 bound) (range_rises bound)

pub numbers_below : (bound : ℕ) (words : List ℕ) → All (λ k. k < bound) (numbers_of bound words).members
numbers_below bound words = λ i d lt. ((in_numbers bound words (get_or (numbers_of bound words).members i d)).0 (Contains-get_or (numbers_of bound words).members i d lt)).0

-- Items of lists by their place.
use Rattle.std.proofs.Common.{◌≡◌, ℕ, zero, suc, ◌+◌, ◌<◌, ◌≤◌, Bool, true, false, ◌||◌, List, [], ◌∷◌, ◌++◌, length, set, get_or, refl, sym, ap, ◌∙◌, subst, arith, ◌⊎◌, inl, inr}
use Rattle.std.specs.Prelude.{slice_get, nat_eq}
use Rattle.std.proofs.lemmas.Option.{slice_get_within, slice_get_read}
use Rattle.std.proofs.lemmas.Bool.Decides.{eqb_tells}
use Rattle.go_term_core.proofs.Members.{In}
use Rattle.go_select_core.specs.levels.mirrors.Ways.{At}

pub at_old : {A : Type 0} (xs : List A) (y : A) (n : ℕ) (x : A) → At xs n x → At (xs ++ y ∷ []) n x
at_old [] y n x h = cc
at_old (w ∷ xs) y zero x h = h
at_old (w ∷ xs) y (suc n) x h = at_old xs y n x h

pub at_new : {A : Type 0} (xs : List A) (y : A) → At (xs ++ y ∷ []) (length xs) y
at_new [] y = refl
at_new (w ∷ xs) y = at_new xs y

pub at_append : {A : Type 0} (xs : List A) (y : A) (n : ℕ) (x : A) → At (xs ++ y ∷ []) n x → At xs n x ⊎ ((n ≡ length xs) × (x ≡ y))
at_append [] y zero x h = inr (refl, cc)
at_append [] y (suc n) x h = cc
at_append (w ∷ xs) y zero x h = inl h
at_append (w ∷ xs) y (suc n) x h = elim (at_append xs y n x h) [ inl p ↦ inl p | inr p ↦ inr (ap (λ k. suc k) p.0, p.1) ]

pub at_set_same : {A : Type 0} (xs : List A) (n : ℕ) (x v : A) → At xs n x → At (set xs n v) n v
at_set_same [] n x v h = cc
at_set_same (w ∷ xs) zero x v h = refl
at_set_same (w ∷ xs) (suc n) x v h = at_set_same xs n x v h

pub at_set_other : {A : Type 0} (xs : List A) (n m : ℕ) (v : A) → (m ≡ n → ⊥) → slice_get (set xs n v) m ≡ slice_get xs m
at_set_other [] n m v h = refl
at_set_other (w ∷ xs) zero zero v h = absurd (h refl)
at_set_other (w ∷ xs) zero (suc m) v h = refl
at_set_other (w ∷ xs) (suc n) zero v h = refl
at_set_other (w ∷ xs) (suc n) (suc m) v h = at_set_other xs n m v (λ e. h (ap (λ k. suc k) e))

pub same_or_not : (m n : ℕ) → (m ≡ n) ⊎ (m ≡ n → ⊥)
same_or_not zero zero = inl refl
same_or_not zero (suc n) = inr (λ e. omega (arith, e))
same_or_not (suc m) zero = inr (λ e. omega (arith, e))
same_or_not (suc m) (suc n) = elim (same_or_not m n) [ inl e ↦ inl (ap (λ k. suc k) e) | inr d ↦ inr (λ e. d (omega (arith, e))) ]

pub at_set : {A : Type 0} (xs : List A) (n : ℕ) (z v : A) (m : ℕ) (x : A) → At xs n z → At (set xs n v) m x → ((m ≡ n) × (x ≡ v)) ⊎ ((m ≡ n → ⊥) × At xs m x)
at_set xs n z v m x at h =
    elim (same_or_not m n) [
      | inl e ↦ inl (e, let s = at_set_same xs n z v at in let g : At (set xs n v) n x = subst (λ k. At (set xs n v) k x) e h in (cc))
      | inr d ↦ inr (d, sym (at_set_other xs n m v d) ∙ h)
    ]

pub at_same : {A : Type 0} (xs : List A) (n : ℕ) (x y : A) → At xs n x → At xs n y → x ≡ y
at_same xs n x y a b = cc

pub at_within : {A : Type 0} (xs : List A) (n : ℕ) (x : A) → At xs n x → n < length xs
at_within xs n x h = slice_get_within xs n x h

pub at_read : {A : Type 0} (xs : List A) (i : ℕ) (x : A) → i < length xs → x ≡ get_or xs i x → At xs i x
at_read xs i x less is = slice_get_read xs (length xs) i x refl less is

-- there is an item at each place within
pub at_some : {A : Type 0} (xs : List A) (n : ℕ) → n < length xs → (x : A) × At xs n x
at_some [] n h = absurd (omega arith)
at_some (x ∷ xs) zero h = (x, refl)
at_some (x ∷ xs) (suc n) h = at_some xs n (omega arith)

pub last_same : (p q : List ℕ) (i j : ℕ) → p ++ i ∷ [] ≡ q ++ j ∷ [] → (p ≡ q) × (i ≡ j)
last_same [] [] i j h = (refl, cc)
last_same [] (y ∷ []) i j h = cc
last_same [] (y ∷ (z ∷ q)) i j h = cc
last_same (x ∷ []) [] i j h = cc
last_same (x ∷ (z ∷ p)) [] i j h = cc
last_same (x ∷ p) (y ∷ q) i j h =
    let t : p ++ i ∷ [] ≡ q ++ j ∷ [] = (cc) in
    let xy : x ≡ y = (cc) in
    let r = last_same p q i j t in
    (let e = r.0 in (cc), r.1)

-- a list that is not empty has a last item
pub last_of : (q : List ℕ) (k : ℕ) → length q ≡ k + 1 → (p : List ℕ) × (i : ℕ) × (q ≡ p ++ i ∷ []) × (length p ≡ k)
last_of [] k h = absurd (omega arith)
last_of (x ∷ []) k h = ([], x, refl, omega arith)
last_of (x ∷ (y ∷ ys)) zero h = absurd (omega arith)
last_of (x ∷ (y ∷ ys)) (suc k) h =
    let r = last_of (y ∷ ys) k (omega arith) in
    (x ∷ r.0, r.1, ap (λ s. x ∷ s) r.2, omega (arith, r.3))

-- the first k items, and the rest
pub front_of : (q : List ℕ) (k : ℕ) → k ≤ length q → (p : List ℕ) × (r : List ℕ) × (q ≡ p ++ r) × (length p ≡ k)
front_of q zero h = ([], q, refl, refl)
front_of [] (suc k) h = absurd (omega arith)
front_of (x ∷ q) (suc k) h =
    let r = front_of q k (omega arith) in
    (x ∷ r.0, r.1, ap (λ s. x ∷ s) r.2, omega (arith, r.3))

pub less_or_same : (j i : ℕ) → j < i + 1 → (j < i) ⊎ (j ≡ i)
less_or_same zero zero h = inr refl
less_or_same zero (suc i) h = inl (omega arith)
less_or_same (suc j) zero h = absurd (omega arith)
less_or_same (suc j) (suc i) h = elim (less_or_same j i (omega arith)) [ inl l ↦ inl (omega arith) | inr e ↦ inr (ap (λ k. suc k) e) ]

-- one case out of two numbers
pub above_or_same : (k n : ℕ) → k ≤ n → (k ≡ n) ⊎ (k < n)
above_or_same zero zero h = inl refl
above_or_same zero (suc n) h = inr (omega arith)
above_or_same (suc k) zero h = absurd (omega arith)
above_or_same (suc k) (suc n) h = elim (above_or_same k n (omega arith)) [ inl e ↦ inl (ap (λ x. suc x) e) | inr l ↦ inr (omega arith) ]

pub below_or_not : (m n : ℕ) → (m < n) ⊎ (n ≤ m)
below_or_not m zero = inr (omega arith)
below_or_not zero (suc n) = inl (omega arith)
below_or_not (suc m) (suc n) = elim (below_or_not m n) [ inl l ↦ inl (omega arith) | inr l ↦ inr (omega arith) ]

pub true_false : {A : Type 0} (b : Bool) → b ≡ true → b ≡ false → A
true_false b t f = cc

pub not_same : (m n : ℕ) → (m ≡ n → ⊥) → nat_eq m n ≡ false
not_same m n d = elim (eqb_tells m n) [ inl p ↦ absurd (d p.1) | inr p ↦ p.0 ]

pub or_assoc : (a b c : Bool) → (a || b) || c ≡ a || (b || c)
or_assoc true b c = refl
or_assoc false b c = refl

pub or_false : (a : Bool) → a || false ≡ a
or_false true = refl
or_false false = refl

pub at_in : {A : Type 0} (xs : List A) (n : ℕ) (x : A) → At xs n x → In xs x
at_in [] n x h = cc
at_in (y ∷ ys) zero x h = inl (cc)
at_in (y ∷ ys) (suc n) x h = inr (at_in ys n x h)

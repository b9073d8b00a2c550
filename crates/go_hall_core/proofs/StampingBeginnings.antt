-- Beginnings of lists.
use Rattle.std.proofs.Common.{◌≡◌, ℕ, zero, suc, ◌+◌, ◌≤◌, ◌<◌, List, [], ◌∷◌, ◌++◌, length, Some, slice_get, refl, ap, sym, ◌∙◌, arith, length-append}
use Rattle.std.specs.Prelude.{take}
use mathlib.Core.List.{IsPrefix}

pub prefix_length : {A : Type 0} (xs ys : List A) → IsPrefix xs ys → length xs ≤ length ys
prefix_length xs ys p = omega (arith, sym (ap length p.1) ∙ length-append xs p.0)

-- what stands in a list stands in each that it begins, at the same place
pub prefix_get : {A : Type 0} (xs ys : List A) (k : ℕ) (x : A) → IsPrefix xs ys → slice_get xs k ≡ Some x → slice_get ys k ≡ Some x
prefix_get [] ys k x p h = absurd cc
prefix_get (y ∷ xs) [] k x p h = absurd (cc (p.1))
prefix_get (y ∷ xs) (z ∷ ys) zero x p h = cc (p.1, h)
prefix_get (y ∷ xs) (z ∷ ys) (suc k) x p h = prefix_get xs ys k x (p.0, cc (p.1)) h

-- and where the place lies in the beginning, the other way
pub prefix_got : {A : Type 0} (xs ys : List A) (k : ℕ) (x : A) → IsPrefix xs ys → k < length xs → slice_get ys k ≡ Some x → slice_get xs k ≡ Some x
prefix_got [] ys k x p less h = absurd (omega (arith, less))
prefix_got (y ∷ xs) [] k x p less h = absurd (cc (p.1))
prefix_got (y ∷ xs) (z ∷ ys) zero x p less h = cc (p.1, h)
prefix_got (y ∷ xs) (z ∷ ys) (suc k) x p less h = prefix_got xs ys k x (p.0, cc (p.1)) (omega (arith, less)) h

-- what is taken of a beginning is taken of the whole
pub prefix_take : {A : Type 0} (n : ℕ) (xs ys : List A) → IsPrefix xs ys → n ≤ length xs → take n ys ≡ take n xs
prefix_take zero xs ys p le = refl
prefix_take (suc n) [] ys p le = absurd (omega (arith, le))
prefix_take (suc n) (x ∷ xs) [] p le = absurd (cc (p.1))
prefix_take (suc n) (x ∷ xs) (y ∷ ys) p le = let rest = prefix_take n xs ys (p.0, cc (p.1)) (omega (arith, le)) in cc (p.1, rest)

-- one more is taken
pub take_more : {A : Type 0} (n : ℕ) (xs : List A) (x : A) → slice_get xs n ≡ Some x → take (suc n) xs ≡ take n xs ++ x ∷ []
take_more n [] x h = absurd cc
take_more zero (y ∷ xs) x h = cc (h)
take_more (suc n) (y ∷ xs) x h = ap (λ l. y ∷ l) (take_more n xs x h)

pub get_taken : {A : Type 0} (n k : ℕ) (xs : List A) (x : A) → k < n → slice_get xs k ≡ Some x → slice_get (take n xs) k ≡ Some x
get_taken zero k xs x less h = absurd (omega (arith, less))
get_taken (suc n) k [] x less h = absurd cc
get_taken (suc n) zero (y ∷ xs) x less h = h
get_taken (suc n) (suc k) (y ∷ xs) x less h = get_taken n k xs x (omega (arith, less)) h

-- of two beginnings of a list, what stands in one within the other stands there
pub beside : {A : Type 0} (xs ys zs : List A) (n k : ℕ) (x : A) → IsPrefix xs zs → IsPrefix ys zs → slice_get ys k ≡ Some x → n ≤ length xs → k < n → slice_get (take n xs) k ≡ Some x
beside xs ys zs n k x p q h le less = get_taken n k xs x less (prefix_got xs zs k x p (omega (arith, le, less)) (prefix_get ys zs k x q h))

-- a list that went on, with one more that is taken
pub taken_on : {A : Type 0} (n : ℕ) (xs ys : List A) (x : A) → IsPrefix xs ys → n ≤ length xs → slice_get ys n ≡ Some x → take (n + 1) ys ≡ take n xs ++ x ∷ []
taken_on n xs ys x p le h =
    let next : n + 1 ≡ suc n = omega arith in
    ap (λ k. take k ys) next ∙ take_more n ys x h ∙ ap (λ l. l ++ x ∷ []) (prefix_take n xs ys p le)

-- what stands in a part that is taken stands in the whole
pub got_taken : {A : Type 0} (n k : ℕ) (xs : List A) (x : A) → slice_get (take n xs) k ≡ Some x → (k < n) × (slice_get xs k ≡ Some x)
got_taken zero k xs x h = absurd cc
got_taken (suc n) k [] x h = absurd cc
got_taken (suc n) zero (y ∷ xs) x h = (omega arith, h)
got_taken (suc n) (suc k) (y ∷ xs) x h = let rest = got_taken n k xs x h in (omega (arith, rest.0), rest.1)

-- of two beginnings of a list, what is taken of the one stands in what is taken of the other, where that is no less
pub covered : {A : Type 0} (xs ys zs : List A) (n m k : ℕ) (x : A) → IsPrefix xs zs → IsPrefix ys zs → n ≤ length xs → m ≤ n → slice_get (take m ys) k ≡ Some x → slice_get (take n xs) k ≡ Some x
covered xs ys zs n m k x p q le less h = (let got = got_taken m k ys x h in beside xs ys zs n k x p q got.1 le (omega (arith, got.0, less)))

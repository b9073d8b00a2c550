-- Bits of words of 64 bits.
use Rattle.std.proofs.Common.{◌≡◌, ◌≢◌, ◌⊎◌, inl, inr, ℕ, ◌*◌, ◌/◌, ◌%◌, ◌^◌, ◌<◌, ◌==◌, true, false, List, length, get_or, sym, ap, ◌∙◌, arith, bit_or, max, slice_set}
use Rattle.std.proofs.Common.{w64}
use Rattle.std.specs.Int.{bit_at}
use Rattle.std.proofs.lemmas.List.{get_or-set_same, get_or-set_other}
use Rattle.std.proofs.lemmas.Nat.Bits.{bit_at_set_same, bit_at_set_other, bit_at_or, bit_at-lt, bit_at-zero}
use Rattle.std.proofs.lemmas.Bool.{cases_eq, eqb-true, eq-eqb}
use Rattle.go_digraph_core.specs.reach.mirrors.Words.{has_bit}

-- the bit of a number
abbrev pub bit_of : List ℕ → ℕ → ℕ
bit_of ws k = bit_at (get_or ws (k / 64) 0) (k % 64)

-- the words with the bit of a number set
abbrev pub with_bit : List ℕ → ℕ → List ℕ
with_bit ws k = slice_set ws (k / 64) (bit_or (get_or ws (k / 64) 0) (1 * 2 ^ (k % 64) % 2 ^ 64))

bit_here : (ws : List ℕ) (k : ℕ) → k / 64 < length ws → bit_of (with_bit ws k) k ≡ 1
bit_here ws k h =
    let low : k % 64 < 64 = omega arith in
    ap (λ w. bit_at w (k % 64)) (get_or-set_same ws (k / 64) (bit_or (get_or ws (k / 64) 0) (1 * 2 ^ (k % 64) % 2 ^ 64)) 0 h)
    ∙ bit_at_set_same w64 (get_or ws (k / 64) 0) (k % 64) low

bit_same_word : (ws : List ℕ) (k j : ℕ) → k / 64 < length ws → j ≢ k → j / 64 ≡ k / 64 → bit_of (with_bit ws k) j ≡ bit_of ws j
bit_same_word ws k j h apart same =
    let low : k % 64 < 64 = omega arith in
    let other : j % 64 ≢ k % 64 = λ e. apart (omega (arith, e, same)) in
    let word = bit_or (get_or ws (k / 64) 0) (1 * 2 ^ (k % 64) % 2 ^ 64) in
    ap (λ i. bit_at (get_or (with_bit ws k) i 0) (j % 64)) same
    ∙ (ap (λ w. bit_at w (j % 64)) (get_or-set_same ws (k / 64) word 0 h)
    ∙ (bit_at_set_other w64 (get_or ws (k / 64) 0) (k % 64) low (j % 64) other
    ∙ ap (λ i. bit_at (get_or ws i 0) (j % 64)) (sym same)))

bit_other : (ws : List ℕ) (k j : ℕ) → k / 64 < length ws → j ≢ k → bit_of (with_bit ws k) j ≡ bit_of ws j
bit_other ws k j h apart = elim (cases_eq (j / 64) (k / 64)) [
  | inl same ↦ bit_same_word ws k j h apart same
  | inr ne ↦ ap (λ w. bit_at w (j % 64)) (get_or-set_other ws (k / 64) (j / 64) (bit_or (get_or ws (k / 64) 0) (1 * 2 ^ (k % 64) % 2 ^ 64)) 0 ne)
]

pub has_here : (ws : List ℕ) (k : ℕ) → k / 64 < length ws → has_bit (with_bit ws k) k ≡ true
has_here ws k h = eq-eqb (bit_of (with_bit ws k) k) 1 (bit_here ws k h)

pub has_other : (ws : List ℕ) (k j : ℕ) → k / 64 < length ws → j ≢ k → has_bit (with_bit ws k) j ≡ has_bit ws j
has_other ws k j h apart = ap (λ b. b == 1) (bit_other ws k j h apart)

-- a word without ones has no bit
pub has_none : (ws : List ℕ) (k : ℕ) → get_or ws (k / 64) 0 ≡ 0 → has_bit ws k ≡ false
has_none ws k e = ap (λ w. bit_at w (k % 64) == 1) e ∙ ap (λ b. b == 1) (bit_at-zero (k % 64))

-- the words of which each has the bits of the two at its place
abbrev pub AreUnited : List ℕ → List ℕ → List ℕ → Type 0
AreUnited xs ys zs = (i : ℕ) → get_or zs i 0 ≡ bit_or (get_or xs i 0) (get_or ys i 0)

united_bit : (xs ys zs : List ℕ) (k : ℕ) → AreUnited xs ys zs → bit_of zs k ≡ max (bit_of xs k) (bit_of ys k)
united_bit xs ys zs k u = ap (λ w. bit_at w (k % 64)) (u (k / 64)) ∙ bit_at_or (get_or xs (k / 64) 0) (get_or ys (k / 64) 0) (k % 64)

pub united_cases : (xs ys zs : List ℕ) (k : ℕ) → AreUnited xs ys zs → has_bit zs k ≡ true → (has_bit xs k ≡ true) ⊎ (has_bit ys k ≡ true)
united_cases xs ys zs k u h =
    let one : bit_of zs k ≡ 1 = eqb-true (bit_of zs k) 1 h in
    let e = united_bit xs ys zs k u in
    elim (cases_eq (bit_of xs k) 1) [
      | inl one_here ↦ inl (eq-eqb (bit_of xs k) 1 one_here)
      | inr none_here ↦ inr (let y : bit_of ys k ≡ 1 = omega (arith, one, e, none_here, bit_at-lt (get_or xs (k / 64) 0) (k % 64)) in eq-eqb (bit_of ys k) 1 y)
    ]

pub united_left : (xs ys zs : List ℕ) (k : ℕ) → AreUnited xs ys zs → has_bit xs k ≡ true → has_bit zs k ≡ true
united_left xs ys zs k u h =
    let one : bit_of xs k ≡ 1 = eqb-true (bit_of xs k) 1 h in
    let z : bit_of zs k ≡ 1 = omega (arith, one, united_bit xs ys zs k u, bit_at-lt (get_or ys (k / 64) 0) (k % 64)) in
    eq-eqb (bit_of zs k) 1 z

pub united_right : (xs ys zs : List ℕ) (k : ℕ) → AreUnited xs ys zs → has_bit ys k ≡ true → has_bit zs k ≡ true
united_right xs ys zs k u h =
    let one : bit_of ys k ≡ 1 = eqb-true (bit_of ys k) 1 h in
    let z : bit_of zs k ≡ 1 = omega (arith, one, united_bit xs ys zs k u, bit_at-lt (get_or xs (k / 64) 0) (k % 64)) in
    eq-eqb (bit_of zs k) 1 z

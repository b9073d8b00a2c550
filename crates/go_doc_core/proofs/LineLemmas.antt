-- Lines of a text.
use Rattle.std.proofs.Common.{◌≡◌, ℕ, zero, suc, ◌+◌, ◌-◌, ◌<◌, ◌≤◌, ◌⊎◌, inl, inr, Bool, true, false, List, [], ◌∷◌, length, get_or, take, refl, ap, ◌∙◌, arith}
use Rattle.std.specs.Prelude.{◌&&◌, cond, nat_eq, nat_lt, min}
use Rattle.std.specs.List.{count_by}
use Rattle.std.proofs.lemmas.List.{take_min}
use Rattle.std.proofs.lemmas.List.Sums.{sum_by-cons, sum_by_more}
use Rattle.go_doc_core.specs.DocComments.{line_of}

rising : (p : ℕ → Bool) (xs : List ℕ) (m n : ℕ) → m ≤ n → count_by p (take m xs) ≤ count_by p (take n xs)
rising p [] zero zero h = omega arith
rising p [] zero (suc n) h = omega arith
rising p [] (suc m) zero h = omega arith
rising p [] (suc m) (suc n) h = omega arith
rising p (x ∷ xs) zero n h = omega arith
rising p (x ∷ xs) (suc m) zero h = absurd (omega (arith, h))
rising p (x ∷ xs) (suc m) (suc n) h =
    let r = rising p xs m n (omega (arith, h)) in
    let low : count_by p (x ∷ take m xs) ≡ cond (p x) 1 0 + count_by p (take m xs) = sum_by-cons (λ b. cond (p b) 1 0) x (take m xs) in
    let high : count_by p (x ∷ take n xs) ≡ cond (p x) 1 0 + count_by p (take n xs) = sum_by-cons (λ b. cond (p b) 1 0) x (take n xs) in
    omega (arith, r, low, high)

-- lines rise with offsets
pub lines_rise : (text : List ℕ) (m n : ℕ) → m ≤ n → line_of text m ≤ line_of text n
lines_rise text m n h = rising (λ b. nat_eq b 10) text m n h

-- the line before a byte
pub line_before : (text : List ℕ) (n : ℕ) → 0 < n → n ≤ length text → line_of text n ≡ line_of text (n - 1) + cond (nat_eq (get_or text (n - 1) 0) 10) 1 0
line_before text n some within =
    let back : n ≡ (n - 1) + 1 = omega (arith, some) in
    ap (line_of text) back ∙ sum_by_more (λ b. cond (nat_eq b 10) 1 0) text (n - 1) 0 (omega (arith, some, within))

-- behind the text no line begins
pub line_within : (text : List ℕ) (n : ℕ) → line_of text (min n (length text)) ≡ line_of text n
line_within text n = ap (count_by (λ b. nat_eq b 10)) (take_min n text)

not_both : (a b n : ℕ) → (nat_lt a b && nat_lt n 2) ≡ false → (b ≤ a) ⊎ (2 ≤ n)
not_both a b n h = by (nat_lt a b) (nat_lt n 2) refl refl h
  where
    up : (x y : ℕ) → nat_lt x y ≡ false → y ≤ x
    up x y e = grind arith

    by : (c d : Bool) → nat_lt a b ≡ c → nat_lt n 2 ≡ d → (c && d) ≡ false → (b ≤ a) ⊎ (2 ≤ n)
    by true true e f k = cc
    by true false e f k = inr (up n 2 f)
    by false d e f k = inl (up a b e)

-- the line ends between two places have been counted, or there are two at least
pub ended : (text : List ℕ) (from at to ends so_far : ℕ) → from ≤ at → at ≤ to → ends ≤ 2 → line_of text to + so_far ≡ line_of text at + ends → (nat_lt from at && nat_lt ends 2) ≡ false → ends ≡ min 2 (so_far + (line_of text to - line_of text from))
ended text from at to ends so_far low high few counted end =
    let under : line_of text from ≤ line_of text at = lines_rise text from at low in
    let over : line_of text at ≤ line_of text to = lines_rise text at to high in
    elim (not_both from at ends end) [
      | inl upto ↦
          let same : at ≡ from = omega (arith, low, upto) in
          let lines : line_of text at ≡ line_of text from = ap (line_of text) same in
          omega (arith, under, over, few, counted, lines)
      | inr many ↦ omega (arith, under, over, few, counted, many)
    ]

-- whether a comment is left that may be above

pub goes_on : (count ends : ℕ) → (nat_lt 0 count && nat_lt ends 2) ≡ true → (0 < count) × (ends < 2)
goes_on count ends h = by (nat_lt 0 count) (nat_lt ends 2) refl refl h
  where
    less : (x y : ℕ) → nat_lt x y ≡ true → x < y
    less x y e = grind arith

    by : (c d : Bool) → nat_lt 0 count ≡ c → nat_lt ends 2 ≡ d → (c && d) ≡ true → (0 < count) × (ends < 2)
    by true true e f k = (less 0 count e, less ends 2 f)
    by true false e f k = cc
    by false d e f k = cc

pub stops : (count ends : ℕ) → (nat_lt 0 count && nat_lt ends 2) ≡ false → (count ≡ 0) ⊎ (2 ≤ ends)
stops count ends h = elim (not_both 0 count ends h) [ inl none ↦ inl (omega (arith, none)) | inr many ↦ inr many ]

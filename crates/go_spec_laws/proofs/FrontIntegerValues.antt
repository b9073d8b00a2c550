-- The number of an integer literal is what is computed of it.
use Rattle.std.proofs.Common.{◌≡◌, ℕ, suc, ◌+◌, ◌-◌, ◌*◌, ◌^◌, ◌<◌, ◌≤◌, ◌⊎◌, Bool, true, false, ◌==◌, ◌||◌, ◌&&◌, inl, inr, List, [], ◌∷◌, length, fold, nat_lt, Some, refl, sym, ap, ◌∙◌, subst, arith}
use Rattle.std.specs.Prelude.{codes}
use Rattle.std.specs.Char.{digit_value, is_ascii_digit}
use Rattle.std.proofs.Math.Nat.{add-mul, mul_assoc, mul_comm, pow-suc, pow-zero}
use Rattle.std.proofs.lemmas.Bool.Decides.{nat_tests}
use Rattle.go_tree_nodes.specs.token_core.declared.kind.TokenKind.TheVariants as kinds
use Rattle.go_tree_nodes.specs.token_core.Numbers.{integer_value_of, next_number, number_in, radix_letter, radix_of, zero_radix}
use Rattle.go_tree_nodes.specs.token_core.Choices.{chosen}
use Rattle.go_scan_core.specs.Tokens.{IsBased, IsDecimal, IsInteger, IsLexeme, IsRun}
use Rattle.go_scan_core.proofs.FrontLemmas.{and_true, or_true, same_number}
use Rattle.go_spec_laws.specs.front.IntegerLaws.{AreDigitsOf, IntegerValuesAreOne, IsBaseLetter, IsDecimalValue, IsDigitOf, IsDigitValue, IsIntegerValue, IsLetteredValue, IsNumberIn, IsOctalValue, WorkedIntegers, positional_sum}

-- ---- tests of numbers

is_below : (a b : ℕ) → a < b → nat_lt a b ≡ true
is_below a b h = grind (arith, nat_tests)

not_below : (a b : ℕ) → b ≤ a → nat_lt a b ≡ false
not_below a b h = grind (arith, nat_tests)

below : (a b : ℕ) → nat_lt a b ≡ true → a < b
below a b h = grind (arith, nat_tests)

above : (a b : ℕ) → nat_lt a b ≡ false → b ≤ a
above a b h = grind (arith, nat_tests)

unlike : (a b : ℕ) → a < b → (a == b) ≡ false
unlike a b h = grind (arith, nat_tests)

not_nought : (c : ℕ) → 49 ≤ c → (c == 48) ≡ false
not_nought c low = grind (arith, nat_tests)

true_with_more : (p q : Bool) → p ≡ true → (p || q) ≡ true
true_with_more p q h = rw h refl

true_behind : (p q : Bool) → q ≡ true → (p || q) ≡ true
true_behind true q h = refl
true_behind false q h = h

-- ---- the value of a digit

figure_is : (c d : ℕ) → 48 ≤ c → c ≤ 57 → d + 48 ≡ 0 + c → digit_value c ≡ d
figure_is c d low high same = rw (not_below c 48 low, is_below c 58 (omega (arith, high))) (omega (arith, same))

small_is : (c d : ℕ) → 97 ≤ c → c ≤ 102 → d + 97 ≡ 10 + c → digit_value c ≡ d
small_is c d low high same =
    rw (not_below c 48 (omega (arith, low)), not_below c 58 (omega (arith, low)), not_below c 65 (omega (arith, low)), not_below c 91 (omega (arith, low)), not_below c 97 low, is_below c 123 (omega (arith, high))) (omega (arith, same))

large_is : (c d : ℕ) → 65 ≤ c → c ≤ 70 → d + 65 ≡ 10 + c → digit_value c ≡ d
large_is c d low high same = rw (not_below c 48 (omega (arith, low)), not_below c 58 (omega (arith, low)), not_below c 65 low, is_below c 91 (omega (arith, high))) (omega (arith, same))

digit_is : (c d : ℕ) → IsDigitValue c d → digit_value c ≡ d
digit_is c d h = elim h [
  | inl figure ↦ figure_is c d figure.0 figure.1 figure.2
  | inr letter ↦ elim letter [ inl small ↦ small_is c d small.0 small.1 small.2 | inr large ↦ large_is c d large.0 large.1 large.2 ]
]

digit_row : (c d : ℕ) → digit_value c ≡ d → d < 16 → IsDigitValue c d
digit_row c d e h = elim (chosen (nat_lt c 48) _ _ d e) [
  | inl a ↦ absurd (omega (arith, a.1, h))
  | inr a ↦ elim (chosen (nat_lt c 58) _ _ d a.1) [
    | inl b ↦ (let low = above c 48 a.0 in inl (low, omega (arith, below c 58 b.0), omega (arith, low, b.1)))
    | inr b ↦ elim (chosen (nat_lt c 65) _ _ d b.1) [
      | inl f ↦ absurd (omega (arith, f.1, h))
      | inr f ↦ elim (chosen (nat_lt c 91) _ _ d f.1) [
        | inl g ↦ (let low = above c 65 f.0 in inr (inr (low, omega (arith, low, g.1, h), omega (arith, low, g.1))))
        | inr g ↦ elim (chosen (nat_lt c 97) _ _ d g.1) [
          | inl i ↦ absurd (omega (arith, i.1, h))
          | inr i ↦ elim (chosen (nat_lt c 123) _ _ d i.1) [
            | inl j ↦ (let low = above c 97 i.0 in inr (inl (low, omega (arith, low, j.1, h), omega (arith, low, j.1))))
            | inr j ↦ absurd (omega (arith, j.1, h))
          ]
        ]
      ]
    ]
  ]
]

-- ---- digits of a base

digit_passes : (base c d : ℕ) → IsDigitOf base c d → nat_lt (digit_value c) base ≡ true
digit_passes base c d h = is_below (digit_value c) base (omega (arith, digit_is c d h.0, h.1))

digit_of : (base c : ℕ) → base ≤ 16 → nat_lt (digit_value c) base ≡ true → IsDigitOf base c (digit_value c)
digit_of base c small h =
    let less : digit_value c < base = below (digit_value c) base h in
    (digit_row c (digit_value c) refl (omega (arith, less, small)), less)

digits_of_run : (base : ℕ) (w : List ℕ) → base ≤ 16 → IsRun base w → (values : List ℕ) × AreDigitsOf base w values
digits_of_run base [] small run = ([], refl)
digits_of_run base (c ∷ []) small run = elim (or_true (nat_lt (digit_value c) base) ((c == 95) && false) run.0) [
  | inl a ↦ (digit_value c ∷ [], (c, [], inl refl, digit_of base c small a, refl))
  | inr a ↦ (let both = and_true (c == 95) false a in let no : false ≡ true = both.1 in cc)
]
digits_of_run base (c ∷ x ∷ rest) small run = elim (or_true (nat_lt (digit_value c) base) ((c == 95) && nat_lt (digit_value x) base) run.0) [
  | inl a ↦ (let others = digits_of_run base (x ∷ rest) small run.1 in (digit_value c ∷ others.0, (c, x ∷ rest, inl refl, digit_of base c small a, others.1)))
  | inr a ↦
      (let both = and_true (c == 95) (nat_lt (digit_value x) base) a in
      let tail : IsRun base (x ∷ rest) = run.1 in
      let others = digits_of_run base rest small tail.1 in
      (digit_value x ∷ others.0, (x, rest, inr (ap (λ y. y ∷ x ∷ rest) (same_number c 95 both.0)), digit_of base x small both.1, others.1)))
]

run_of_digits : (base : ℕ) (w values : List ℕ) → AreDigitsOf base w values → IsRun base w
run_of_digits base w [] h = subst (λ x. IsRun base x) (sym h) tt
run_of_digits base w (d ∷ ds) (c, others, split, digit, more) =
    let rest = run_of_digits base others ds more in
    let passes = digit_passes base c d digit in
    let first : IsRun base (c ∷ others) = (true_with_more (nat_lt (digit_value c) base) _ passes, rest) in
    elim split [
      | inl plain ↦ subst (λ x. IsRun base x) (sym plain) first
      | inr spaced ↦ subst (λ x. IsRun base x) (sym spaced) (true_behind (nat_lt 36 base) (nat_lt (digit_value c) base) passes, first)
    ]

some_values : (base : ℕ) (w values : List ℕ) → AreDigitsOf base w values → 0 < length w → 0 < length values
some_values base w [] h some = absurd (omega (arith, ap length h, some))
some_values base w (d ∷ ds) h some = omega arith

some_text : (base : ℕ) (w values : List ℕ) → AreDigitsOf base w values → 0 < length values → 0 < length w
some_text base w [] h some = absurd (omega (arith, some))
some_text base w (d ∷ ds) (c, others, split, digit, more) some = elim split [ inl plain ↦ omega (arith, ap length plain) | inr spaced ↦ omega (arith, ap length spaced) ]

-- ---- the number of digits

next_digit : (base v c d : ℕ) → IsDigitOf base c d → next_number base v c ≡ v * base + d
next_digit base v c d h = rw (digit_passes base c d h) (ap (λ x. v * base + x) (digit_is c d h.0))

no_digit : (base v : ℕ) → base ≤ 16 → next_number base v 95 ≡ v
no_digit base v small = rw (not_below 36 base (omega (arith, small))) refl

shifted : (v base d k s : ℕ) → (v * base + d) * base ^ k + s ≡ v * base ^ suc k + (d * base ^ k + s)
shifted v base d k s =
    let p = base ^ k in
    let apart : (v * base + d) * p ≡ v * base * p + d * p = add-mul (v * base) d p in
    let moved : v * base * p ≡ v * (p * base) = mul_assoc v base p ∙ ap (λ x. v * x) (mul_comm base p) in
    let power : v * base ^ suc k ≡ v * (p * base) = ap (λ x. v * x) (pow-suc base k) in
    omega (arith, apart, moved, power)

unmoved : (v base : ℕ) → v ≡ v * base ^ 0 + 0
unmoved v base = omega (arith, ap (λ x. v * x) (pow-zero base))

read_is : (base v : ℕ) (w values : List ℕ) → base ≤ 16 → AreDigitsOf base w values → fold (next_number base) v w ≡ v * base ^ length values + positional_sum base values
read_is base v w [] small h = ap (fold (next_number base) v) h ∙ unmoved v base
read_is base v w (d ∷ ds) small (c, others, split, digit, more) =
    let read : fold (next_number base) v (c ∷ others) ≡ v * base ^ suc (length ds) + (d * base ^ length ds + positional_sum base ds) =
    ap (λ x. fold (next_number base) x others) (next_digit base v c d digit)
    ∙ read_is base (v * base + d) others ds small more
    ∙ shifted v base d (length ds) (positional_sum base ds) in
    elim split [
      | inl plain ↦ ap (fold (next_number base) v) plain ∙ read
      | inr spaced ↦ ap (fold (next_number base) v) spaced ∙ ap (λ x. fold (next_number base) x (c ∷ others)) (no_digit base v small) ∙ read
    ]

number_is : (base : ℕ) (w : List ℕ) (n : ℕ) → base ≤ 16 → IsNumberIn base w n → n ≡ number_in base w
number_is base w n small (values, digits, some, sum) =
    let nought : 0 * base ^ length values + positional_sum base values ≡ positional_sum base values = omega arith in
    sum ∙ sym (read_is base 0 w values small digits ∙ nought)

number_has : (base : ℕ) (w : List ℕ) → base ≤ 16 → IsRun base w → 0 < length w → (n : ℕ) × IsNumberIn base w n
number_has base w small run some =
    let has = digits_of_run base w small run in
    (positional_sum base has.0, (has.0, has.1, some_values base w has.0 has.1 some, refl))

number_run : (base : ℕ) (w : List ℕ) (n : ℕ) → IsNumberIn base w n → IsRun base w × (0 < length w)
number_run base w n (values, digits, some, sum) = (run_of_digits base w values digits, some_text base w values digits some)

-- ---- the base of a letter

-- what is computed behind 0 and the letter of a base
abbrev IsReadIn : List ℕ → ℕ → ℕ → Type 0
IsReadIn w letter base = (radix_letter letter ≡ Some base) × (base ≤ 16) × (integer_value_of (48 ∷ letter ∷ w) ≡ number_in base w)

letter_row : (w : List ℕ) (letter base k b : ℕ) → letter ≡ k → base ≡ b → IsReadIn w k b → IsReadIn w letter base
letter_row w letter base k b same named h = subst (λ x. IsReadIn w x base) (sym same) (subst (λ x. IsReadIn w k x) (sym named) h)

letter_read : (w : List ℕ) (letter base : ℕ) → IsBaseLetter letter base → IsReadIn w letter base
letter_read w letter base h = elim h [
  | inl two ↦ elim two.0 [ inl e ↦ letter_row w letter base 98 2 e two.1 (refl, omega arith, refl) | inr e ↦ letter_row w letter base 66 2 e two.1 (refl, omega arith, refl) ]
  | inr more ↦ elim more [
    | inl eight ↦ elim eight.0 [ inl e ↦ letter_row w letter base 111 8 e eight.1 (refl, omega arith, refl) | inr e ↦ letter_row w letter base 79 8 e eight.1 (refl, omega arith, refl) ]
    | inr sixteen ↦ elim sixteen.0 [ inl e ↦ letter_row w letter base 120 16 e sixteen.1 (refl, omega arith, refl) | inr e ↦ letter_row w letter base 88 16 e sixteen.1 (refl, omega arith, refl) ]
  ]
]

either_letter : (letter k l : ℕ) → ((letter == k) || (letter == l)) ≡ true → (letter ≡ k) ⊎ (letter ≡ l)
either_letter letter k l h = elim (or_true (letter == k) (letter == l) h) [ inl a ↦ inl (same_number letter k a) | inr a ↦ inr (same_number letter l a) ]

letter_has : (letter base : ℕ) → radix_letter letter ≡ Some base → IsBaseLetter letter base
letter_has letter base e = elim (chosen ((letter == 120) || (letter == 88)) _ _ (Some base) e) [
  | inl a ↦ inr (inr (either_letter letter 120 88 a.0, named 16 a.1))
  | inr a ↦ elim (chosen ((letter == 98) || (letter == 66)) _ _ (Some base) a.1) [
    | inl b ↦ inl (either_letter letter 98 66 b.0, named 2 b.1)
    | inr b ↦ elim (chosen ((letter == 111) || (letter == 79)) _ _ (Some base) b.1) [
      | inl f ↦ inr (inl (either_letter letter 111 79 f.0, named 8 f.1))
      | inr f ↦ (let no = f.1 in cc)
    ]
  ]
]
  where
    named : (n : ℕ) → Some n ≡ Some base → base ≡ n
    named n e = cc

-- ---- what is computed is the only number

decimal_only : (text : List ℕ) (n : ℕ) → IsDecimalValue text n → n ≡ integer_value_of text
decimal_only text n (c, w, split, low, high, number) =
    let ten : radix_of (c ∷ w) ≡ 10 = rw (not_nought c low) refl in
    number_is 10 text n (omega arith) number ∙ sym (ap (λ x. number_in x text) (ap radix_of split ∙ ten))

octal_below : (c d : ℕ) → IsDigitOf 8 c d → c ≤ 55
octal_below c d h = elim h.0 [
  | inl figure ↦ omega (arith, figure.2, h.1)
  | inr letter ↦ elim letter [ inl small ↦ absurd (omega (arith, small.0, small.2, h.1)) | inr large ↦ absurd (omega (arith, large.0, large.2, h.1)) ]
]

octal_radix : (w values : List ℕ) → AreDigitsOf 8 w values → zero_radix w ≡ 8
octal_radix w [] h = ap zero_radix h
octal_radix w (d ∷ ds) (c, others, split, digit, more) = elim split [ inl plain ↦ ap zero_radix plain ∙ figure c (octal_below c d digit) | inr spaced ↦ ap zero_radix spaced ]
  where
    figure : (c : ℕ) → c ≤ 55 → zero_radix (c ∷ others) ≡ 8
    figure c high = rw (unlike c 120 (omega (arith, high)), unlike c 88 (omega (arith, high)), unlike c 98 (omega (arith, high)), unlike c 66 (omega (arith, high))) refl

octal_only : (text : List ℕ) (n : ℕ) → IsOctalValue text n → n ≡ integer_value_of text
octal_only text n (w, split, number) =
    let eight : integer_value_of (48 ∷ w) ≡ number_in 8 w = ap (λ x. number_in x (48 ∷ w)) (octal_radix w number.0 number.1) in
    number_is 8 w n (omega arith) number ∙ sym (ap integer_value_of split ∙ eight)

lettered_only : (text : List ℕ) (n : ℕ) → IsLetteredValue text n → n ≡ integer_value_of text
lettered_only text n (letter, base, w, split, names, number) =
    let read = letter_read w letter base names in
    number_is base w n read.1 number ∙ sym (ap integer_value_of split ∙ read.2)

integer_only : (text : List ℕ) (n : ℕ) → IsIntegerValue text n → n ≡ integer_value_of text
integer_only text n h = elim h [
  | inl decimal ↦ decimal_only text n decimal
  | inr other ↦ elim other [
    | inl nought ↦ nought.1 ∙ sym (ap integer_value_of nought.0)
    | inr more ↦ elim more [ inl octal ↦ octal_only text n octal | inr lettered ↦ lettered_only text n lettered ]
  ]
]

-- ---- each literal has a number

decimal_has : (text : List ℕ) → IsDecimal text → (n : ℕ) × IsDecimalValue text n
decimal_has text (c, w, split, figure, other, run) =
    let low : 48 ≤ c = grind (arith, nat_tests) in
    let high : c ≤ 57 = grind (arith, nat_tests) in
    let more : 49 ≤ c = grind (arith, nat_tests) in
    let less : nat_lt (digit_value c) 10 ≡ true = digit_passes 10 c (c - 48) (inl (low, high, omega (arith, low)), omega (arith, high)) in
    let whole : IsRun 10 (c ∷ w) = (true_with_more (nat_lt (digit_value c) 10) _ less, run) in
    let has = number_has 10 text (omega arith) (subst (λ x. IsRun 10 x) (sym split) whole) (omega (arith, ap length split)) in
    (has.0, (c, w, split, more, high, has.1))

octal_has : (text w : List ℕ) → text ≡ 48 ∷ w → IsRun 8 w → (n : ℕ) × IsIntegerValue text n
octal_has text [] split run = (0, inr (inl (split, refl)))
octal_has text (c ∷ w) split run = let has = number_has 8 (c ∷ w) (omega arith) run (omega arith) in (has.0, inr (inr (inl (c ∷ w, split, has.1))))

based_has : (text : List ℕ) → IsBased text → (n : ℕ) × IsLetteredValue text n
based_has text (letter, base, w, split, e, some, run) =
    let names = letter_has letter base e in
    let has = number_has base w (letter_read w letter base names).1 run some in
    (has.0, (letter, base, w, split, names, has.1))

integer_has : (text : List ℕ) → IsInteger text → (n : ℕ) × IsIntegerValue text n
integer_has text h = elim h [
  | inl decimal ↦ (let has = decimal_has text decimal in (has.0, inl has.1))
  | inr other ↦ elim other [
    | inl octal ↦ octal_has text octal.0 octal.1 octal.2
    | inr based ↦ (let has = based_has text based in (has.0, inr (inr (inr has.1))))
  ]
]

-- ---- what has a number is a literal

decimal_literal : (text : List ℕ) (n : ℕ) → IsDecimalValue text n → IsDecimal text
decimal_literal text n (c, w, split, low, high, number) =
    let run : IsRun 10 (c ∷ w) = subst (λ x. IsRun 10 x) split (number_run 10 text n number).0 in
    (c, w, split, figure c low high, not_nought c low, run.1)
  where
    figure : (c : ℕ) → 49 ≤ c → c ≤ 57 → is_ascii_digit c ≡ true
    figure c low high = grind (arith, nat_tests)

integer_literal : (text : List ℕ) (n : ℕ) → IsIntegerValue text n → IsInteger text
integer_literal text n h = elim h [
  | inl decimal ↦ inl (decimal_literal text n decimal)
  | inr other ↦ elim other [
    | inl nought ↦ inr (inl ([], nought.0, tt))
    | inr more ↦ elim more [
      | inl octal ↦ inr (inl (octal.0, octal.1, (number_run 8 octal.0 n octal.2).0))
      | inr lettered ↦ inr (inr (lettered_literal lettered))
    ]
  ]
]
  where
    lettered_literal : IsLetteredValue text n → IsBased text
    lettered_literal (letter, base, w, split, names, number) =
        let run = number_run base w n number in
        (letter, base, w, split, (letter_read w letter base names).0, run.1, run.0)

-- ---- the law

integer_each : (text : List ℕ) → IsLexeme kinds.Integer text → IsIntegerValue text (integer_value_of text)
integer_each text h = let has = integer_has text h in subst (λ n. IsIntegerValue text n) (integer_only text has.0 has.1) has.1

worked : WorkedIntegers
worked = record {
  nought = inr (inl (refl, refl));
  leading = integer_each (codes "007") (inr (inl (codes "07", refl, (refl, (refl, tt)))));
  octal = integer_each (codes "017") (inr (inl (codes "17", refl, (refl, (refl, tt)))));
  lettered_octal = integer_each (codes "0o17") (inr (inr (111, 8, codes "17", refl, refl, omega arith, (refl, (refl, tt)))));
  hexadecimal = integer_each (codes "0x1F") (inr (inr (120, 16, codes "1F", refl, refl, omega arith, (refl, (refl, tt)))));
  small_letters = integer_each (codes "0Xaf") (inr (inr (88, 16, codes "af", refl, refl, omega arith, (refl, (refl, tt)))));
  binary = integer_each (codes "0b101") (inr (inr (98, 2, codes "101", refl, refl, omega arith, (refl, (refl, (refl, tt))))));
  spaced = integer_each (codes "1_000") (inl (49, codes "_000", refl, refl, refl, (refl, (refl, (refl, (refl, tt))))));
}

pub integer_values_are_one : IntegerValuesAreOne
integer_values_are_one = record {
  each = integer_each;
  only = integer_only;
  literals = integer_literal;
  worked = worked;
}

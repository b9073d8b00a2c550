-- What integer literals stand for.
--
-- The Go specification, "Integer literals".
use Rattle.std.specs.Prelude.{◌≡◌, ◌⊎◌, ℕ, ◌+◌, ◌*◌, ◌^◌, ◌<◌, ◌≤◌, List, [], ◌∷◌, length, codes}
use Rattle.go_tree_nodes.specs.token_core.declared.kind.TokenKind.TheVariants as kinds
use Rattle.go_tree_nodes.specs.token_core.Numbers.{integer_value_of}
use Rattle.go_scan_core.specs.Tokens.{IsLexeme}

-- a character of a row, from its first to its last, whose values rise by one from the lowest, and its value
abbrev pub IsInRow : ℕ → ℕ → ℕ → ℕ → ℕ → Type 0
IsInRow first last lowest c value = (first ≤ c) × (c ≤ last) × (value + first ≡ lowest + c)

-- a digit and its value: 0 to 9 have 0 to 9, a to f have 10 to 15, and so have A to F
abbrev pub IsDigitValue : ℕ → ℕ → Type 0
IsDigitValue c value = IsInRow 48 57 0 c value ⊎ (IsInRow 97 102 10 c value ⊎ IsInRow 65 70 10 c value)

-- a digit of the base and its value, which is below the base
abbrev pub IsDigitOf : ℕ → ℕ → ℕ → Type 0
IsDigitOf base c value = IsDigitValue c value × (value < base)

-- a text of digits of the base, and their values in order: one `_` may stand before each digit, and stands for nothing
abbrev pub AreDigitsOf : ℕ → List ℕ → List ℕ → Type 0
AreDigitsOf base w [] = w ≡ []
AreDigitsOf base w (value ∷ values) = (c : ℕ) × (others : List ℕ) × ((w ≡ c ∷ others) ⊎ (w ≡ 95 ∷ c ∷ others)) × IsDigitOf base c value × AreDigitsOf base others values

-- the sum of the digits, each times the base to the power of how many digits stand behind it
abbrev pub positional_sum : ℕ → List ℕ → ℕ
positional_sum base [] = 0
positional_sum base (value ∷ values) = value * base ^ length values + positional_sum base values

-- at least one digit of the base, with this sum
abbrev pub IsNumberIn : ℕ → List ℕ → ℕ → Type 0
IsNumberIn base w n = (values : List ℕ) × AreDigitsOf base w values × (0 < length values) × (n ≡ positional_sum base values)

-- the base that a letter behind a first 0 names: 2 for b and B, 8 for o and O, 16 for x and X
abbrev pub IsBaseLetter : ℕ → ℕ → Type 0
IsBaseLetter letter base =
    (((letter ≡ 98) ⊎ (letter ≡ 66)) × (base ≡ 2))
    ⊎ ((((letter ≡ 111) ⊎ (letter ≡ 79)) × (base ≡ 8))
    ⊎ (((letter ≡ 120) ⊎ (letter ≡ 88)) × (base ≡ 16)))

-- a digit from 1 to 9 begins it, and it is the number of its digits in base 10
abbrev pub IsDecimalValue : List ℕ → ℕ → Type 0
IsDecimalValue text n = (c : ℕ) × (w : List ℕ) × (text ≡ c ∷ w) × (49 ≤ c) × (c ≤ 57) × IsNumberIn 10 text n

-- 0 alone is 0
abbrev pub IsZeroValue : List ℕ → ℕ → Type 0
IsZeroValue text n = (text ≡ 48 ∷ []) × (n ≡ 0)

-- 0, and the number of the digits behind it in base 8
abbrev pub IsOctalValue : List ℕ → ℕ → Type 0
IsOctalValue text n = (w : List ℕ) × (text ≡ 48 ∷ w) × IsNumberIn 8 w n

-- 0, the letter of a base, and the number of the digits behind them in this base
abbrev pub IsLetteredValue : List ℕ → ℕ → Type 0
IsLetteredValue text n = (letter base : ℕ) × (w : List ℕ) × (text ≡ 48 ∷ letter ∷ w) × IsBaseLetter letter base × IsNumberIn base w n

-- the text is an integer literal, and stands for this number
abbrev pub IsIntegerValue : List ℕ → ℕ → Type 0
IsIntegerValue text n = IsDecimalValue text n ⊎ (IsZeroValue text n ⊎ (IsOctalValue text n ⊎ IsLetteredValue text n))

-- literals and what they stand for, worked out by hand
pub record WorkedIntegers : Type 0 where
  -- 0 alone
  pub nought : IsIntegerValue (codes "0") 0
  -- a first 0 of base 8, and one more
  pub leading : IsIntegerValue (codes "007") 7
  -- 1 times 8 and 7
  pub octal : IsIntegerValue (codes "017") 15
  -- the same by its letter
  pub lettered_octal : IsIntegerValue (codes "0o17") 15
  -- 1 times 16 and 15
  pub hexadecimal : IsIntegerValue (codes "0x1F") 31
  -- small letters are the same digits
  pub small_letters : IsIntegerValue (codes "0Xaf") 175
  -- 4 and 1
  pub binary : IsIntegerValue (codes "0b101") 5
  -- `_` stands for nothing
  pub spaced : IsIntegerValue (codes "1_000") 1000

-- what an integer literal stands for is what is computed of it
pub record IntegerValuesAreOne : Type 0 where
  -- each integer literal stands for what is computed of it
  pub each : (text : List ℕ) → IsLexeme kinds.Integer text → IsIntegerValue text (integer_value_of text)
  -- and a text that stands for a number as an integer stands for no other
  pub only : (text : List ℕ) (n : ℕ) → IsIntegerValue text n → n ≡ integer_value_of text
  -- and is an integer literal
  pub literals : (text : List ℕ) (n : ℕ) → IsIntegerValue text n → IsLexeme kinds.Integer text
  -- what some stand for
  pub worked : WorkedIntegers

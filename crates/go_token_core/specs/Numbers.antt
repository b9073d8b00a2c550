-- Digits and integer literals, and the numbers that they write.
use Rattle.std.specs.Prelude.{false, ℕ, ◌+◌, ◌*◌, Bool, ◌==◌, ◌||◌, ◌&&◌, nat_lt, if◌then◌else◌, List, [], ◌∷◌, fold, Option, Some, None}
use Rattle.std.specs.Char.{digit_value}

abbrev pub first_digit : ℕ → List ℕ → Bool
first_digit radix [] = false
first_digit radix (c ∷ cs) = nat_lt (digit_value c) radix

-- a digit, or a `_` before one
abbrev pub is_in_run : ℕ → ℕ → List ℕ → Bool
is_in_run radix c cs = nat_lt (digit_value c) radix || ((c == 95) && first_digit radix cs)

-- the radix that the letter behind a first 0 names: x, X, b, B, o or O
abbrev pub radix_letter : ℕ → Option ℕ
radix_letter c = if (c == 120) || (c == 88) then Some 16 else (if (c == 98) || (c == 66) then Some 2 else (if (c == 111) || (c == 79) then Some 8 else None))

-- the number behind one more character: what is no digit changes nothing
abbrev pub next_number : ℕ → ℕ → ℕ → ℕ
next_number radix value c = if nat_lt (digit_value c) radix then value * radix + digit_value c else value

-- the number that the digits write
abbrev pub number_in : ℕ → List ℕ → ℕ
number_in radix cs = fold (next_number radix) 0 cs

-- the radix of a literal that begins with 0, by the character behind it
abbrev pub zero_radix : List ℕ → ℕ
zero_radix [] = 8
zero_radix (c ∷ cs) = if (c == 120) || (c == 88) then 16 else (if (c == 98) || (c == 66) then 2 else 8)

abbrev pub radix_of : List ℕ → ℕ
radix_of [] = 10
radix_of (c ∷ cs) = if c == 48 then zero_radix cs else 10

-- the number that a literal writes, and of any other text the one that its digits write: base 16, 2
-- or 8 by what it begins with, 10 otherwise; what is no digit of the base is passed over
abbrev pub integer_value_of : List ℕ → ℕ
integer_value_of cs = number_in (radix_of cs) cs

-- a number, unless it is above 2^63 - 1
abbrev pub up_to_greatest : ℕ → Option ℕ
up_to_greatest n = if nat_lt 9223372036854775807 n then None else Some n

-- Why a number is refused.
use Rattle.std.specs.Prelude.{ℕ, Bool, false, ◌&&◌, ◌||◌, nat_eq, nat_le, nat_lt, List, [], ◌∷◌, length, if◌then◌else◌}
use Rattle.std.specs.Char.{is_ascii_alphanumeric, is_ascii_digit}
use Rattle.std.specs.List.{list_any, prefix_len}
use Rattle.go_recovery_core.specs.declared.mend.flaw.LexicalCause.{LexicalCause}
use Rattle.go_recovery_core.specs.declared.mend.flaw.LexicalCause.TheVariants as causes

-- a letter, a digit, `_` or `.`
abbrev pub is_number_byte : ℕ → Bool
is_number_byte b = is_ascii_alphanumeric b || nat_eq b 95 || nat_eq b 46

abbrev pub number_len : List ℕ → ℕ
number_len bytes = prefix_len is_number_byte bytes

abbrev pub is_point_or_e : ℕ → Bool
is_point_or_e b = nat_eq b 46 || nat_eq b 101 || nat_eq b 69

abbrev pub is_point_or_p : ℕ → Bool
is_point_or_p b = nat_eq b 46 || nat_eq b 112 || nat_eq b 80

abbrev pub is_above_seven : ℕ → Bool
is_above_seven b = nat_lt 55 b

abbrev pub is_i : ℕ → Bool
is_i b = nat_eq b 105

-- the number begins with `0x`
abbrev pub is_hexadecimal : List ℕ → Bool
is_hexadecimal [] = false
is_hexadecimal (b ∷ []) = false
is_hexadecimal (b ∷ c ∷ cs) = nat_eq b 48 && (nat_eq c 120 || nat_eq c 88)

-- the number begins with `0` and a digit
abbrev pub is_octal : List ℕ → Bool
is_octal [] = false
is_octal (b ∷ []) = false
is_octal (b ∷ c ∷ cs) = nat_eq b 48 && is_ascii_digit c

abbrev pub is_float : List ℕ → Bool
is_float number = if is_hexadecimal number then list_any is_point_or_p number else list_any is_point_or_e number

-- a number of fewer than 18 bytes is not above 2^63 - 1
abbrev pub number_cause : List ℕ → LexicalCause
number_cause number =
    if list_any is_i number then causes.Imaginary
    else if is_float number then causes.Float
    else if is_octal number && list_any is_above_seven number then causes.OctalDigit
    else if nat_le 18 (length number) then causes.TooLarge
    else causes.Malformed

-- Values of constants, and what operators make of them.
use Rattle.std.specs.Prelude.{ℕ, ⊤, ◌≤◌, Bool, true, false, ◌&&◌, ◌||◌, not, nat_lt, nat_eq, ◌^◌, List, ◌++◌, length, ℤ, pos, negsuc, ◌+ℤ◌, ◌-ℤ◌, ◌*ℤ◌, neg_ℤ, int_div, int_rem, Option, Some, None, if◌then◌else◌}
use Rattle.std.specs.Str.{bytes_eq}
use Rattle.std.specs.Ordering.{nat_cmp, is_lt}
use Rattle.std.specs.Cmp.Lexicographic.{slice_cmp}
use Rattle.go_token_core.specs.declared.kind.Operator.{Operator}
use Rattle.go_token_core.specs.declared.kind.Operator.TheVariants as operators
use Rattle.go_constant_core.specs.declared.values.Constant.{Constant}
use Rattle.go_constant_core.specs.declared.values.Constant.TheVariants as constants

-- -2^63 ≤ z < 2^63
abbrev pub fits_64_bits : ℤ → Bool
fits_64_bits (pos n) = nat_lt n (2 ^ 63)
fits_64_bits (negsuc n) = nat_lt n (2 ^ 63)

abbrev pub int_same : ℤ → ℤ → Bool
int_same (pos m) (pos n) = nat_eq m n
int_same (pos m) (negsuc n) = false
int_same (negsuc m) (pos n) = false
int_same (negsuc m) (negsuc n) = nat_eq m n

abbrev pub int_less : ℤ → ℤ → Bool
int_less (pos m) (pos n) = nat_lt m n
int_less (pos m) (negsuc n) = false
int_less (negsuc m) (pos n) = true
int_less (negsuc m) (negsuc n) = nat_lt n m

abbrev pub text_same : List ℕ → List ℕ → Bool
text_same a b = bytes_eq a b

-- by bytes: at the first place where they differ, or where one ends
abbrev pub text_less : List ℕ → List ℕ → Bool
text_less a b = is_lt (slice_cmp nat_cmp a b)

-- no text of a program has more bytes, and none is joined that would
abbrev pub most_bytes : ℕ
most_bytes = 2 ^ 20

abbrev pub bool_same : Bool → Bool → Bool
bool_same true b = b
bool_same false b = not b

-- the integer, or none where it is out of range
abbrev pub ranged : ℤ → Option Constant
ranged z = if fits_64_bits z then Some (constants.Int z) else None

-- what comes of a division
abbrev pub divided : (ℤ → ℤ → ℤ) → ℤ → ℤ → Option Constant
divided f a b = if int_same b (pos 0) then Some constants.Unknown else ranged (f a b)

abbrev pub of_ints : Operator → ℤ → ℤ → Option Constant
of_ints operators.Plus a b = ranged (a +ℤ b)
of_ints operators.Minus a b = ranged (a -ℤ b)
of_ints operators.Star a b = ranged (a *ℤ b)
of_ints operators.Slash a b = divided int_div a b
of_ints operators.Percent a b = divided int_rem a b
of_ints operators.Equal a b = Some (constants.Bool (int_same a b))
of_ints operators.NotEqual a b = Some (constants.Bool (not (int_same a b)))
of_ints operators.Less a b = Some (constants.Bool (int_less a b))
of_ints operators.LessEqual a b = Some (constants.Bool (not (int_less b a)))
of_ints operators.Greater a b = Some (constants.Bool (int_less b a))
of_ints operators.GreaterEqual a b = Some (constants.Bool (not (int_less a b)))
of_ints _ a b = Some constants.Unknown

abbrev pub of_texts : Operator → List ℕ → List ℕ → Constant
of_texts operators.Plus a b = constants.Text (a ++ b)
of_texts operators.Equal a b = constants.Bool (text_same a b)
of_texts operators.NotEqual a b = constants.Bool (not (text_same a b))
of_texts operators.Less a b = constants.Bool (text_less a b)
of_texts operators.LessEqual a b = constants.Bool (not (text_less b a))
of_texts operators.Greater a b = constants.Bool (text_less b a)
of_texts operators.GreaterEqual a b = constants.Bool (not (text_less a b))
of_texts _ a b = constants.Unknown

abbrev pub of_bools : Operator → Bool → Bool → Constant
of_bools operators.LogicalAnd a b = constants.Bool (a && b)
of_bools operators.LogicalOr a b = constants.Bool (a || b)
of_bools operators.Equal a b = constants.Bool (bool_same a b)
of_bools operators.NotEqual a b = constants.Bool (not (bool_same a b))
of_bools _ a b = constants.Unknown

-- the value of a binary operator, or none where it is out of range; unknown where the two are not known, or not of one kind
abbrev pub binary : Operator → Constant → Constant → Option Constant
binary op (constants.Int a) (constants.Int b) = of_ints op a b
binary op (constants.Text a) (constants.Text b) = Some (of_texts op a b)
binary op (constants.Bool a) (constants.Bool b) = Some (of_bools op a b)
binary op (constants.Int a) (constants.Text b) = Some constants.Unknown
binary op (constants.Int a) (constants.Bool b) = Some constants.Unknown
binary op (constants.Int a) constants.Unknown = Some constants.Unknown
binary op (constants.Text a) (constants.Int b) = Some constants.Unknown
binary op (constants.Text a) (constants.Bool b) = Some constants.Unknown
binary op (constants.Text a) constants.Unknown = Some constants.Unknown
binary op (constants.Bool a) (constants.Int b) = Some constants.Unknown
binary op (constants.Bool a) (constants.Text b) = Some constants.Unknown
binary op (constants.Bool a) constants.Unknown = Some constants.Unknown
binary op constants.Unknown b = Some constants.Unknown

-- a text has no more bytes than one of a program
abbrev pub IsBounded : Option Constant → Type 0
IsBounded (Some (constants.Text a)) = length a ≤ most_bytes
IsBounded (Some (constants.Int z)) = ⊤
IsBounded (Some (constants.Bool b)) = ⊤
IsBounded (Some constants.Unknown) = ⊤
IsBounded None = ⊤

abbrev pub of_int : Operator → ℤ → Option Constant
of_int operators.Plus a = Some (constants.Int a)
of_int operators.Minus a = ranged (neg_ℤ a)
of_int _ a = Some constants.Unknown

abbrev pub of_bool : Operator → Bool → Constant
of_bool operators.Not a = constants.Bool (not a)
of_bool _ a = constants.Unknown

-- the value of a unary operator, or none where it is out of range
abbrev pub unary : Operator → Constant → Option Constant
unary op (constants.Int a) = of_int op a
unary op (constants.Bool a) = Some (of_bool op a)
unary op (constants.Text a) = Some constants.Unknown
unary op constants.Unknown = Some constants.Unknown

abbrev pub is_zero : Constant → Bool
is_zero (constants.Int z) = int_same z (pos 0)
is_zero (constants.Bool b) = false
is_zero (constants.Text a) = false
is_zero constants.Unknown = false

abbrev pub natural : ℕ → Constant
natural n = if nat_lt n (2 ^ 63) then constants.Int (pos n) else constants.Unknown

abbrev pub text_length : Constant → Constant
text_length (constants.Text a) = natural (length a)
text_length (constants.Int z) = constants.Unknown
text_length (constants.Bool b) = constants.Unknown
text_length constants.Unknown = constants.Unknown

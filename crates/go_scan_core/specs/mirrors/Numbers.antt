-- How many characters integer literals have.
use Rattle.std.specs.Prelude.{ℕ, ◌+◌, ◌==◌, if◌then◌else◌, List, [], ◌∷◌, drop, Option, Some, None}
use Rattle.go_token_core.specs.Numbers.{is_in_run, radix_letter}

-- how many characters are digits, or a `_` before one
abbrev pub digits_run : ℕ → List ℕ → ℕ
digits_run radix [] = 0
digits_run radix (c ∷ cs) = if is_in_run radix c cs then 1 + digits_run radix cs else 0

abbrev pub named_radix : List ℕ → Option ℕ
named_radix [] = None
named_radix (c ∷ cs) = radix_letter c

abbrev pub based_len : Option ℕ → List ℕ → ℕ
based_len None cs = 1 + digits_run 8 cs
based_len (Some radix) cs = if digits_run radix (drop 1 cs) == 0 then 1 else 2 + digits_run radix (drop 1 cs)

-- how many characters the literal has whose first 0 stands before this text
unfoldable pub zero_len : List ℕ → ℕ
zero_len cs = based_len (named_radix cs) cs

unfoldable pub number_len : List ℕ → ℕ
number_len [] = 0
number_len (c ∷ cs) = if c == 48 then zero_len cs else 1 + digits_run 10 cs

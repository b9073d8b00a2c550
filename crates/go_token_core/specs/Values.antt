-- The bytes that string literals stand for.
use Rattle.std.specs.Prelude.{◌≡◌, ◌≢◌, ◌⊎◌, All, ℕ, zero, suc, ◌+◌, ◌-◌, ◌==◌, if◌then◌else◌, List, [], ◌∷◌, ◌++◌, length, take, encode_utf8, Option, Some, None}
use Rattle.std.specs.List.{flat_map}
use Rattle.go_token_core.specs.declared.escapes.Meaning.{Meaning}
use Rattle.go_token_core.specs.declared.escapes.Meaning.TheVariants.{Byte, Char}
use Rattle.go_token_core.specs.Escapes.{escape_at}

abbrev pub meaning_bytes : Meaning → List ℕ
meaning_bytes (Byte b) = b ∷ []
meaning_bytes (Char c) = encode_utf8 c

abbrev pub escape_or : ℕ → Option (Meaning × ℕ) → Meaning × ℕ
escape_or c None = (Char c, 1)
escape_or c (Some x) = (x.0, x.1 + 1)

-- what a character and those behind it stand for first, and how many of them: a backslash with no
-- escape behind it stands for itself
unfoldable pub meaning_at : ℕ → List ℕ → Meaning × ℕ
meaning_at c cs = if c == 92 then escape_or c (escape_at cs) else (Char c, 1)

-- the bytes of the inside of an interpreted string; `skip` characters are passed over
unfoldable pub quoted_value : List ℕ → ℕ → List ℕ
quoted_value [] skip = []
quoted_value (c ∷ cs) (suc skip) = quoted_value cs skip
quoted_value (c ∷ cs) zero = meaning_bytes (meaning_at c cs).0 ++ quoted_value cs ((meaning_at c cs).1 - 1)

-- the bytes of a character of a raw string: a carriage return drops out
abbrev pub raw_bytes : ℕ → List ℕ
raw_bytes c = if c == 13 then [] else encode_utf8 c

-- the bytes of the inside of a raw string
abbrev pub raw_value : List ℕ → List ℕ
raw_value cs = flat_map raw_bytes cs

-- the characters but the last
abbrev pub but_last : List ℕ → List ℕ
but_last cs = take (length cs - 1) cs

-- the bytes that a string literal stands for
abbrev pub string_value_of : List ℕ → List ℕ
string_value_of [] = []
string_value_of (c ∷ cs) = if c == 96 then raw_value (but_last cs) else quoted_value (but_last cs) 0

-- a text is this inside between two of the byte `mark`, and the byte `never` is not in the inside
abbrev pub IsBetween : ℕ → ℕ → List ℕ → List ℕ → Type 0
IsBetween mark never inside text = (text ≡ mark ∷ (inside ++ mark ∷ [])) × All (λ b. b ≢ never) inside

-- a text that has such an inside
abbrev pub IsPlainBetween : ℕ → ℕ → List ℕ → Type 0
IsPlainBetween mark never text = (inside : List ℕ) × IsBetween mark never inside text

-- a literal that is written plainly: between two `"` with no backslash, or between two backquotes
-- with no carriage return
abbrev pub IsPlain : List ℕ → Type 0
IsPlain text = IsPlainBetween 34 92 text ⊎ IsPlainBetween 96 13 text

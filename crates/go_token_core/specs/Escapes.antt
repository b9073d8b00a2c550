-- Escapes of interpreted strings.
use Rattle.std.specs.Prelude.{ℕ, zero, suc, ◌+◌, ◌*◌, Bool, true, false, ◌==◌, ◌||◌, ◌&&◌, nat_lt, nat_le, if◌then◌else◌, List, [], ◌∷◌, Option, Some, None}
use Rattle.std.specs.Char.{digit_value}
use Rattle.go_token_core.specs.declared.escapes.Meaning.{Meaning}
use Rattle.go_token_core.specs.declared.escapes.Meaning.TheVariants.{Byte, Char}

abbrev pub digits_next : ℕ → Bool → (ℕ → Option ℕ) → Option ℕ
digits_next value true more = more value
digits_next value false more = None

-- the number that so many digits write behind a number, where it stays within the limit
unfoldable pub digits_at : List ℕ → ℕ → ℕ → ℕ → ℕ → Option ℕ
digits_at cs limit radix zero value = Some value
digits_at [] limit radix (suc n) value = None
digits_at (c ∷ cs) limit radix (suc n) value = digits_next (value * radix + digit_value c) (nat_lt (digit_value c) radix && nat_le (value * radix + digit_value c) limit) (λ v. digits_at cs limit radix n v)

-- a, b, f, n, r, t, v, backslash, quotation mark
abbrev pub simple_of : ℕ → Option ℕ
simple_of c =
    if c == 97 then Some 7
    else (if c == 98 then Some 8
    else (if c == 102 then Some 12
    else (if c == 110 then Some 10
    else (if c == 114 then Some 13
    else (if c == 116 then Some 9
    else (if c == 118 then Some 11
    else (if c == 92 then Some 92
    else (if c == 34 then Some 34
    else None))))))))

abbrev pub byte_read : ℕ → Option ℕ → Option (Meaning × ℕ)
byte_read n None = None
byte_read n (Some v) = Some (Byte v, n)

-- a scalar value: no surrogate
abbrev pub scalar_read : ℕ → Option ℕ → Option (Meaning × ℕ)
scalar_read n None = None
scalar_read n (Some v) = if nat_lt v 55296 || nat_lt 57343 v then Some (Char v, n) else None

abbrev pub simple_or : Option ℕ → Option (Meaning × ℕ) → Option (Meaning × ℕ)
simple_or None other = other
simple_or (Some b) other = Some (Byte b, 1)

-- what the escape stands for whose backslash is before this text, and how many characters it has behind the backslash
unfoldable pub escape_at : List ℕ → Option (Meaning × ℕ)
escape_at [] = None
escape_at (c ∷ cs) =
    if c == 120 then byte_read 3 (digits_at cs 255 16 2 0)
    else (if c == 117 then scalar_read 5 (digits_at cs 1114111 16 4 0)
    else (if c == 85 then scalar_read 9 (digits_at cs 1114111 16 8 0)
    else simple_or (simple_of c) (byte_read 3 (digits_at (c ∷ cs) 255 8 3 0))))

-- Lines and characters of a text, as an editor counts them: both from 0. A line is ended by `\n`, by `\r\n` or by `\r`, which is no part of it.
use Rattle.std.specs.Prelude.{ℕ, zero, suc, ◌+◌, ◌-◌, ◌==◌, ◌&&◌, ◌||◌, not, nat_le, nat_lt, Bool, false, List, [], ◌∷◌, if◌then◌else◌}
use Rattle.go_lsp_core.specs.declared.positions.place.Encoding.{Encoding}
use Rattle.go_lsp_core.specs.declared.positions.place.Encoding.TheVariants.{Utf8, Utf16}
use Rattle.go_lsp_core.specs.declared.positions.place.Position.{Position}

-- the units of a character, counted at its first byte; the other bytes of a character count none
abbrev pub units : Encoding → ℕ → ℕ
units Utf8 b = if nat_lt b 128 then 1 else if nat_lt b 192 then 0 else if nat_lt b 224 then 2 else if nat_lt b 240 then 3 else 4
units Utf16 b = if nat_lt b 128 then 1 else if nat_lt b 192 then 0 else if nat_lt b 240 then 1 else 2

abbrev pub begins_lf : List ℕ → Bool
begins_lf [] = false
begins_lf (b ∷ bs) = b == 10

-- a byte, before these ones, is the last one of the end of a line
abbrev pub ends_line : ℕ → List ℕ → Bool
ends_line b bs = (b == 10) || ((b == 13) && not (begins_lf bs))

-- a byte belongs to the end of a line
abbrev pub is_end_byte : ℕ → Bool
is_end_byte b = (b == 10) || (b == 13)

abbrev pub at : ℕ → ℕ → Position
at line character = record { line = line; character = character }

-- a position, where p is the same position counted from after the first byte, which is b and has bs after it
abbrev pub after_byte : (ℕ → ℕ) → ℕ → List ℕ → Position → Position
after_byte units b bs p = if ends_line b bs then at (suc p.line) p.character else if (p.line == 0) && not (b == 13) then at 0 (units b + p.character) else p

-- the position of an offset in a text; of an offset after the end of the text, that of the end
abbrev pub position_at : (ℕ → ℕ) → List ℕ → ℕ → Position
position_at units [] n = at 0 0
position_at units (b ∷ bs) zero = at 0 0
position_at units (b ∷ bs) (suc n) = after_byte units b bs (position_at units bs n)

-- the offset of a position in a text: of one after the end of its line, that of the end of the line; of one on a line after the last, that of the end of the
-- text; and of one within a character, that of the character
abbrev pub offset_at : (ℕ → ℕ) → List ℕ → ℕ → ℕ → ℕ
offset_at units [] line character = 0
offset_at units (b ∷ bs) zero character = if is_end_byte b then 0 else if nat_le (units b) character then suc (offset_at units bs 0 (character - units b)) else 0
offset_at units (b ∷ bs) (suc line) character = suc (offset_at units bs (if ends_line b bs then line else suc line) character)

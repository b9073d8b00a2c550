-- One walk over a text.
use Rattle.std.specs.Prelude.{ℕ, zero, suc, ◌+◌, ◌==◌, List, [], ◌∷◌, if◌then◌else◌}
use Rattle.go_lsp_core.specs.declared.positions.place.Position.{Position}
use Rattle.go_lsp_core.specs.positions.Positions.{at, ends_line}

-- the units of some bytes
abbrev pub total : (ℕ → ℕ) → List ℕ → ℕ
total units [] = 0
total units (b ∷ bs) = units b + total units bs

-- the position after a byte, which has these after it, from the position before it
abbrev pub stepped : (ℕ → ℕ) → ℕ → List ℕ → Position → Position
stepped units b bs p = if ends_line b bs then at (p.line + 1) 0 else if b == 13 then p else at p.line (p.character + units b)

-- a position that is counted from another one
abbrev pub counted_from : Position → Position → Position
counted_from o p = if p.line == 0 then at o.line (o.character + p.character) else at (o.line + p.line) p.character

-- how many bytes stand before a line, or how many there are where there is no such line
abbrev pub line_start : List ℕ → ℕ → ℕ
line_start [] line = 0
line_start (b ∷ bs) zero = 0
line_start (b ∷ bs) (suc line) = suc (line_start bs (if ends_line b bs then line else suc line))

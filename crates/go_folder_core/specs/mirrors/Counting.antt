-- How lines and columns are counted.
use Rattle.std.specs.Prelude.{ℕ, ◌+◌, ◌==◌, List, [], ◌∷◌, if◌then◌else◌}
use Rattle.go_folder_core.specs.declared.places.Position.{Position}

-- a place of these numbers
abbrev pub at : ℕ → ℕ → Position
at line column = record { line = line; column = column }

-- the place after a byte
abbrev pub past : ℕ → Position → Position
past b p = if b == 10 then at (p.line + 1) 1 else at p.line (p.column + 1)

-- the place after these bytes
abbrev pub position_from : Position → List ℕ → Position
position_from p [] = p
position_from p (b ∷ bs) = position_from (past b p) bs

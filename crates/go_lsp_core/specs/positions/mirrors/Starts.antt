-- Where the lines of a text start.
use Rattle.std.specs.Prelude.{◌≡◌, ℕ, zero, suc, ◌+◌, ◌≤◌, List, [], ◌∷◌, length, drop, slice_index, if◌then◌else◌}
use Rattle.go_lsp_core.specs.declared.positions.place.Position.{Position}
use Rattle.go_lsp_core.specs.positions.Positions.{at, ends_line, offset_at, position_at}

-- where the lines after the first one start, of bytes that stand at this offset
abbrev pub starts_from : ℕ → List ℕ → List ℕ
starts_from offset [] = []
starts_from offset (b ∷ bs) = if ends_line b bs then suc offset ∷ starts_from (suc offset) bs else starts_from (suc offset) bs

-- where a line starts, by the starts of the lines after the first one
abbrev pub start_at : List ℕ → ℕ → ℕ
start_at starts zero = 0
start_at starts (suc k) = slice_index starts k

-- a position so many lines further
abbrev pub further : ℕ → Position → Position
further k p = at (k + p.line) p.character

-- so many bytes stand before the start of a line
pub record IsStart (units : ℕ → ℕ) (bs : List ℕ) (line m : ℕ) : Type 0 where
  pub within : m ≤ length bs
  pub offset : (character : ℕ) → offset_at units bs line character ≡ m + offset_at units (drop m bs) 0 character
  pub place : (n : ℕ) → position_at units bs (m + n) ≡ further line (position_at units (drop m bs) n)

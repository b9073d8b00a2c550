-- What holds of positions.
use Rattle.std.specs.Prelude.{◌≡◌, ◌⊎◌, ◌<◌, ◌≤◌, ℕ, suc, List, ◌∷◌, ◌++◌, length, IsCharBoundary}
use Rattle.go_lsp_core.specs.declared.positions.place.Encoding.{Encoding}
use Rattle.go_lsp_core.specs.declared.positions.place.Position.{Position}
use Rattle.go_lsp_core.specs.positions.Positions.{offset_at, position_at, units}

-- an offset of a text that lies within no character and not between `\r` and `\n`
pub record IsBoundary (text : List ℕ) (n : ℕ) : Type 0 where
  pub character : IsCharBoundary text n
  pub line_end : (front back : List ℕ) → text ≡ front ++ 13 ∷ 10 ∷ back → n ≡ suc (length front) → ⊥

-- a position stands before another, or is the same
abbrev pub IsUpTo : Position → Position → Type 0
IsUpTo p q = (p.line < q.line) ⊎ ((p.line ≡ q.line) × (p.character ≤ q.character))

-- the position of a boundary leads back to it
abbrev pub BoundariesLeadBack : Type 0
BoundariesLeadBack = (encoding : Encoding) (text : List ℕ) (n : ℕ) → IsBoundary text n → offset_at (units encoding) text (position_at (units encoding) text n).line (position_at (units encoding) text n).character ≡ n

-- each position leads to a boundary
abbrev pub PositionsLeadToBoundaries : Type 0
PositionsLeadToBoundaries = (encoding : Encoding) (text : List ℕ) (line character : ℕ) → IsBoundary text (offset_at (units encoding) text line character)

-- positions grow with offsets
abbrev pub PositionsGrow : Type 0
PositionsGrow = (encoding : Encoding) (text : List ℕ) (m n : ℕ) → m ≤ n → IsUpTo (position_at (units encoding) text m) (position_at (units encoding) text n)

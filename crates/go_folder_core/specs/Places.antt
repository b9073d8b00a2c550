-- Lines and columns.
use Rattle.std.specs.Prelude.{◌≡◌, ◌≢◌, ◌⊎◌, ◌+◌, ◌==◌, ℕ, List, [], ◌∷◌, ◌++◌, length, count_by, All}
use Rattle.go_folder_core.specs.declared.places.Position.{Position}

-- whole lines, each with its end
abbrev pub AreWholeLines : List ℕ → Type 0
AreWholeLines lines = (lines ≡ []) ⊎ ((front : List ℕ) × (lines ≡ front ++ 10 ∷ []))

-- the place behind these bytes: its line is one more than there are ends of lines among them, and its column one more than
-- there are bytes behind the last of these
pub record IsPosition (before : List ℕ) (p : Position) : Type 0 where
  pub lines : List ℕ
  pub rest : List ℕ
  pub parts : before ≡ lines ++ rest
  pub whole : AreWholeLines lines
  pub one_line : All (λ b. b ≢ 10) rest
  pub line : p.line ≡ 1 + count_by (λ b. b == 10) before
  pub column : p.column ≡ 1 + length rest

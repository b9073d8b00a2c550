-- What stands for a text.
use Rattle.std.specs.Prelude.{◌≡◌, ◌≤◌, ℕ, length, List, [], ◌∷◌, Option, None, Some, string_bytes, ⊤}
use Rattle.std.specs.List.{AllByRecursion}
use Rattle.go_parse_core.specs.Correct.{HasNoLowTree}
use Rattle.go_recovery_core.specs.declared.standin.part.Interval.{Interval}
use Rattle.go_recovery_core.specs.declared.standin.standing.StandIn.{StandIn}
use Rattle.go_recovery_core.specs.standin.Alone.{AreBroken}
use Rattle.go_recovery_core.specs.standin.Blanks.{all_blanked}
use Rattle.go_recovery_core.specs.standin.Files.{HasLowTree, IsNoFile}
use Rattle.go_recovery_core.specs.standin.Lines.{lines_of}
use Rattle.go_recovery_core.specs.standin.Outlines.{declarations}

-- it is the text with blanks in the place of its parts, and parses
pub record Stands (text : List ℕ) (s : StandIn) : Type 0 where
  pub blanks : string_bytes s.text ≡ all_blanked s.blanked.items text
  pub parses : HasLowTree (string_bytes s.text)

-- these bytes as a text with these parts, or they do not parse
abbrev pub IsKept : List ℕ → List Interval → Option StandIn → Type 0
IsKept blank parts None = HasNoLowTree blank
IsKept blank parts (Some s) = (string_bytes s.text ≡ blank) × (s.blanked.items ≡ parts) × HasLowTree blank

-- the text with blanks in the place of these parts, or it does not parse
abbrev pub IsTried : List ℕ → List Interval → Option StandIn → Type 0
IsTried text parts None = IsNoFile (all_blanked parts text)
IsTried text parts (Some s) = Stands text s × (s.blanked.items ≡ parts)

-- a text that stands for the text, or with blanks in the place of no one of these parts it parses
abbrev pub IsFound : List ℕ → List Interval → Option StandIn → Type 0
IsFound text parts None = AllByRecursion (λ part. IsNoFile (all_blanked (part ∷ []) text)) parts
IsFound text parts (Some s) = Stands text s

-- the text does not parse with blanks in the place of the lines that the edit touches
abbrev pub FailsAtEdit : List ℕ → Option Interval → Type 0
FailsAtEdit text None = ⊤
FailsAtEdit text (Some edited) = IsNoFile (all_blanked (lines_of text edited ∷ []) text)

-- a text that stands for the text, or there is none with the lines of the edit blanked
abbrev pub IsFoundAtEdit : List ℕ → Option Interval → Option StandIn → Type 0
IsFoundAtEdit text edited None = FailsAtEdit text edited
IsFoundAtEdit text edited (Some s) = Stands text s

-- the text does not parse with blanks in the place of all its declarations that do not parse by themselves
abbrev pub FailsWithoutBroken : List ℕ → List Interval → Type 0
FailsWithoutBroken text parts = (broken : List Interval) × AreBroken text parts broken × IsNoFile (all_blanked broken text)

-- a text that stands for the text, or there is none with these declarations blanked where they do not parse by themselves
abbrev pub IsFoundWithoutBroken : List ℕ → List Interval → Option StandIn → Type 0
IsFoundWithoutBroken text parts None = FailsWithoutBroken text parts
IsFoundWithoutBroken text parts (Some s) = Stands text s

-- of at most 32 declarations there is none with which blanked the text parses
abbrev pub FailsWithoutOne : List ℕ → List Interval → Type 0
FailsWithoutOne text parts = length parts ≤ 32 → AllByRecursion (λ part. IsNoFile (all_blanked (part ∷ []) text)) parts

abbrev pub IsFoundWithoutOne : List ℕ → List Interval → Option StandIn → Type 0
IsFoundWithoutOne text parts None = FailsWithoutOne text parts
IsFoundWithoutOne text parts (Some s) = Stands text s

abbrev pub FailsWithoutSome : List ℕ → List Interval → Type 0
FailsWithoutSome text parts = FailsWithoutBroken text parts × FailsWithoutOne text parts

abbrev pub IsFoundWithoutSome : List ℕ → List Interval → Option StandIn → Type 0
IsFoundWithoutSome text parts None = FailsWithoutSome text parts
IsFoundWithoutSome text parts (Some s) = Stands text s

abbrev pub IsFoundElsewhere : List ℕ → Option StandIn → Type 0
IsFoundElsewhere text None = FailsWithoutSome text (declarations text)
IsFoundElsewhere text (Some s) = Stands text s

abbrev pub IsFoundSomewhere : List ℕ → Option Interval → Option StandIn → Type 0
IsFoundSomewhere text edited None = FailsAtEdit text edited × FailsWithoutSome text (declarations text)
IsFoundSomewhere text edited (Some s) = Stands text s

-- a text that stands for the text, which is the text itself where it parses; or none: neither the text parses, nor the one with the lines of the edit blanked,
-- nor the one with all declarations blanked that do not parse by themselves, nor, of at most 32 declarations, one with one of them blanked
abbrev pub IsStandIn : List ℕ → Option Interval → Option StandIn → Type 0
IsStandIn text edited None = HasNoLowTree text × FailsAtEdit text edited × FailsWithoutSome text (declarations text)
IsStandIn text edited (Some s) = Stands text s × (HasLowTree text → s.blanked.items ≡ [])

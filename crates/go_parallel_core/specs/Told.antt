-- What packages tell, and the inputs that rest on it.
use Rattle.std.specs.Prelude.{◌≡◌, ◌⊎◌, ℕ, ⊤, List, [], ◌∷◌, Option, All, Contains}
use Rattle.go_summary_core.specs.Summaries.{SummaryModel, path_of}
use Rattle.go_package_core.specs.package_part.Inputs.{InputModel, path_in}
use Rattle.go_package_core.specs.package_part.Parts.{PartModel}
use Rattle.go_snap_core.specs.whole_workspace.Inputs.{Tells}

-- a package tells this
pub record IsTold (parts : List (Option PartModel)) (s : SummaryModel) : Type 0 where
  pub place : ℕ
  pub tells : Tells parts place s

-- each of these is told
abbrev pub AreTold : List (Option PartModel) → List SummaryModel → Type 0
AreTold parts ss = (s : SummaryModel) → Contains ss s → IsTold parts s

-- these are all that is told
pub record AreAllTold (parts : List (Option PartModel)) (ss : List SummaryModel) : Type 0 where
  pub all : (s : SummaryModel) → IsTold parts s → Contains ss s
  pub only : AreTold parts ss

-- what is told is what was told before, and these
pub record TellsMore (old : List (Option PartModel)) (more : List SummaryModel) (new : List (Option PartModel)) : Type 0 where
  pub before : (s : SummaryModel) → IsTold old s → IsTold new s
  pub added : AreTold new more
  pub only : (s : SummaryModel) → IsTold new s → IsTold old s ⊎ Contains more s

-- all that an input reaches is told, and nothing of its own package
pub record IsHeld (parts : List (Option PartModel)) (i : InputModel) : Type 0 where
  pub reached : AreTold parts i.reached
  pub own : (s : SummaryModel) → IsTold parts s → path_in i ≡ path_of s → ⊥

-- inputs of packages of different paths
abbrev pub AreApart : List InputModel → Type 0
AreApart [] = ⊤
AreApart (i ∷ is) = All (λ (j : InputModel). path_in j ≡ path_in i → ⊥) is × AreApart is

-- inputs of different packages that rest on what is told
pub record AreHeld (parts : List (Option PartModel)) (is : List InputModel) : Type 0 where
  pub each : All (IsHeld parts) is
  pub apart : AreApart is

-- what a part was made from, and what it tells
abbrev pub input_of : PartModel → InputModel
input_of p = p.input

abbrev pub summary_in : PartModel → SummaryModel
summary_in p = p.content.summary

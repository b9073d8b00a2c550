-- Parts that are kept where some are there already.
use Rattle.std.specs.Prelude.{◌≡◌, ◌↔◌, ℕ, Bool, List, Option, Some, IsTrue, length, slice_get}
use Rattle.std.specs.List.{AllZip}
use Rattle.go_digraph_core.specs.reach.Numbers.{Numbers}
use Rattle.go_report_core.specs.summary_core.Summaries.{SummaryModel}
use Rattle.go_emit_core.specs.package_core.PackagePartParts.{PartModel}
use Rattle.go_snap_core.specs.whole_workspace.Inputs.{Tells}

-- the part is one of those that were there
abbrev pub WasThere : List (Option PartModel) → PartModel → Type 0
WasThere earlier part = (k : ℕ) × (slice_get earlier k ≡ Some (Some part))

-- of each package, by its number, whether it has a part that was there: what is marked has one, and what has one is marked
pub record AreKept (earlier parts : List (Option PartModel)) (kept : List Bool) : Type 0 where
  pub many : length kept ≡ length parts
  pub each : (n : ℕ) (is : Bool) → slice_get kept n ≡ Some is → IsTrue is ↔ ((part : PartModel) × (slice_get parts n ≡ Some (Some part)) × WasThere earlier part)

-- what is told again

-- an earlier part tells this
abbrev pub WasTold : List (Option PartModel) → SummaryModel → Type 0
WasTold earlier s = (k : ℕ) × Tells earlier k s

-- the mark of the package of a number says whether an earlier part tells this
pub record IsMarked (earlier : List (Option PartModel)) (marks : List Bool) (n : ℕ) (s : SummaryModel) : Type 0 where
  pub mark : Bool
  pub at : slice_get marks n ≡ Some mark
  pub says : IsTrue mark ↔ WasTold earlier s

-- that of each package with a part says it of what the part tells
pub record AreMarked (earlier parts : List (Option PartModel)) (marks : List Bool) : Type 0 where
  pub many : length marks ≡ length parts
  pub each : (n : ℕ) (part : PartModel) → slice_get parts n ≡ Some (Some part) → IsMarked earlier marks n part.content.summary

-- the packages that the one of a number reaches tell this, and their marks say of it whether an earlier part tells it
pub record AreMarkedFor (sets : List Numbers) (earlier : List (Option PartModel)) (marks : List Bool) (n : ℕ) (ss : List SummaryModel) : Type 0 where
  pub set : Numbers
  pub there : slice_get sets n ≡ Some set
  pub all : AllZip (IsMarked earlier marks) set.members ss

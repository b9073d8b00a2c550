-- A package of a number in two workspaces.
--
-- The Go specification, "Packages", "Import declarations".
use Rattle.std.specs.Prelude.{◌≡◌, ℕ, List, Option}
use Rattle.go_graph_core.specs.declared.imports.ImportAt.{ImportAt}
use Rattle.go_graph_core.specs.declared.imports.ImportOutcome.{ImportOutcome}
use Rattle.go_graph_core.specs.declared.imports.ImportOutcome.TheVariants.{Package}
use Rattle.go_graph_core.specs.Imports.{IsOutcome}
use Rattle.go_graph_core.specs.Workspaces.{PackageModel}
use Rattle.go_report_core.specs.summary_core.Summaries.{SummaryModel}
use Rattle.go_emit_core.specs.package_core.PackagePartParts.{PartModel}
use Rattle.go_snap_core.specs.whole_workspace.Inputs.{ReachesPackage, Tells}

-- the package of a number tells these types
abbrev pub TellsTypes : List (Option PartModel) → ℕ → SummaryModel → Type 0
TellsTypes parts n s = (t : SummaryModel) × Tells parts n t × (t.types ≡ s.types)

-- what the imports of the package of a number came to in the one workspace they come to in the other, and it reaches there what it reached; those that its
-- imports come to tell what they told, and those that it reaches the types that they told
pub record StaysBeside (qs ps : List PackageModel) (was now : List (Option PartModel)) (n : ℕ) : Type 0 where
  pub outcomes : (at : ImportAt) (o : ImportOutcome) → at.«package» ≡ n → IsOutcome qs at o → IsOutcome ps at o
  pub reaches : (m : ℕ) → ReachesPackage qs n m → ReachesPackage ps n m
  pub imported : (at : ImportAt) (m : ℕ) (s : SummaryModel) → at.«package» ≡ n → IsOutcome ps at (Package m) → Tells now m s → Tells was m s
  pub types : (m : ℕ) (s : SummaryModel) → ReachesPackage ps n m → Tells now m s → TellsTypes was m s

-- What the parts of the packages of a workspace are made from.
--
-- docs/RULES.md, "Imports", "Summaries", "Whole workspaces". The Go specification, "Import declarations".
use Rattle.std.specs.Prelude.{◌≡◌, ◌↔◌, ℕ, List, Option, Some, None, All, Contains, slice_get}
use Rattle.std.specs.List.{AllZip}
use Rattle.std.specs.List.Sorted.{IsStrictlyIncreasing}
use Rattle.go_digraph_core.specs.reach.Reach.{ReachesByEdges}
use Rattle.go_digraph_core.specs.declared.cycle.edge.Edge.{Edge}
use Rattle.go_graph_core.specs.declared.imports.ImportAt.{ImportAt}
use Rattle.go_graph_core.specs.declared.imports.ImportOutcome.{ImportOutcome}
use Rattle.go_graph_core.specs.declared.imports.ImportOutcome.TheVariants.{Package}
use Rattle.go_graph_core.specs.Imports.{IsNumbered, IsOutcome}
use Rattle.go_graph_core.specs.Lists.{AllNumbered}
use Rattle.go_graph_core.specs.Packages.{IsAssembled, trees_of}
use Rattle.go_graph_core.specs.Sources.{SourceModel}
use Rattle.go_graph_core.specs.Workspaces.{PackageModel}
use Rattle.go_names_core.specs.block_core.declared.imports.Imported.{Imported}
use Rattle.go_names_core.specs.block_core.Exports.{ExportsModel}
use Rattle.go_names_core.specs.block_core.Naming.{AreInPackage, IsGiven}
use Rattle.go_report_core.specs.summary_core.Summaries.{SummaryModel, path_of}
use Rattle.go_emit_core.specs.package_core.PackagePartInputs.{InputModel}
use Rattle.go_emit_core.specs.package_core.PackagePartParts.{IsPart, PartModel}

-- the package of a number tells this
pub record Tells (parts : List (Option PartModel)) (n : ℕ) (s : SummaryModel) : Type 0 where
  pub of_part : PartModel
  pub there : slice_get parts n ≡ Some (Some of_part)
  pub is : s ≡ of_part.content.summary

-- the package of a number shows this, by what it tells
pub record Shown (parts : List (Option PartModel)) (n : ℕ) (e : ExportsModel) : Type 0 where
  pub summary : SummaryModel
  pub told : Tells parts n summary
  pub is : e ≡ summary.exports

-- what the import at a place comes to, by what parts tell
pub record ComesTo (ps : List PackageModel) (parts : List (Option PartModel)) (at : ImportAt) (i : Imported) : Type 0 where
  pub outcome : ImportOutcome
  pub judged : IsOutcome ps at outcome
  pub given : IsGiven (Shown parts) outcome i

-- an import that passes leads from its package to the one that it comes to
abbrev pub IsPassingImport : List PackageModel → Edge → Type 0
IsPassingImport ps e = (at : ImportAt) × (at.«package» ≡ e.from) × IsOutcome ps at (Package e.to)

-- a list of imports that pass, at least one, leads from one package to another
abbrev pub ReachesPackage : List PackageModel → ℕ → ℕ → Type 0
ReachesPackage ps n m = (edges : List Edge) × All (IsPassingImport ps) edges × ReachesByEdges edges n m

-- what the packages tell that the one of a number reaches, each once, in order of number
pub record AreToldTo (ps : List PackageModel) (parts : List (Option PartModel)) (n : ℕ) (ss : List SummaryModel) : Type 0 where
  pub numbers : List ℕ
  pub rising : IsStrictlyIncreasing numbers
  pub reached : (m : ℕ) → Contains numbers m ↔ ReachesPackage ps n m
  pub told : AllZip (Tells parts) numbers ss

-- the input of the package of a number: the package, what its imports come to, and what the packages tell that it reaches
pub record IsInputOf (ps : List PackageModel) (parts : List (Option PartModel)) (n : ℕ) (p : PackageModel) (i : InputModel) : Type 0 where
  pub source : i.source ≡ p
  pub imports : AreInPackage (ComesTo ps parts) n (trees_of p.1) i.imports
  pub reached : AreToldTo ps parts n i.reached

-- the input of the package of a number of a workspace
pub record IsInputAt (ps : List PackageModel) (parts : List (Option PartModel)) (n : ℕ) (i : InputModel) : Type 0 where
  pub numbered : slice_get ps n ≡ Some i.source
  pub input : IsInputOf ps parts n i.source i

-- each package that the one of a number reaches has a part, and what a part tells is of the package of its number
pub record HasReached (ps : List PackageModel) (parts : List (Option PartModel)) (n : ℕ) : Type 0 where
  pub told : (m : ℕ) → ReachesPackage ps n m → (s : SummaryModel) × Tells parts m s
  pub own : (m : ℕ) (s : SummaryModel) → Tells parts m s → (files : List SourceModel) × IsNumbered ps (path_of s) m files

-- a part for each assembled package and for no other, each made from its input
abbrev pub IsPartOf : List PackageModel → List (Option PartModel) → ℕ → PackageModel → Option PartModel → Type 0
IsPartOf ps parts n p None = IsAssembled p.1 → ⊥
IsPartOf ps parts n p (Some part) = IsAssembled p.1 × IsInputOf ps parts n p part.input × IsPart part.input part.content

abbrev pub AreParts : List PackageModel → List (Option PartModel) → Type 0
AreParts ps parts = AllNumbered (λ n p part. IsPartOf ps parts n p part) 0 ps parts

-- What the imports of a package come to, by a plan and by what packages before it show.
use Rattle.std.specs.Prelude.{◌≡◌, ℕ, ◌<◌, ⊤, List, length, Option, Some, slice_get}
use Rattle.go_tree_nodes.specs.Trees.{FileTree}
use Rattle.go_graph_core.specs.declared.imports.ImportAt.{ImportAt}
use Rattle.go_graph_core.specs.declared.imports.ImportOutcome.{ImportOutcome}
use Rattle.go_graph_core.specs.declared.imports.ImportOutcome.TheVariants as outcomes
use Rattle.go_graph_core.specs.Packages.{Trees, trees_of}
use Rattle.go_graph_core.specs.Plans.{outcome_at}
use Rattle.go_graph_core.specs.Workspaces.{PackageModel}
use Rattle.go_block_core.specs.declared.imports.Imported.{Imported}
use Rattle.go_block_core.specs.Exports.{ExportsModel}
use Rattle.go_block_core.specs.Blocks.{BlocksModel, AreBlocks, exports_of}
use Rattle.go_block_core.specs.Naming.{IsGiven, AreInPackage, file_specs, import_at, package_named}

-- the package of a number shows this, in a list
abbrev pub IsShownIn : List (Option ExportsModel) → ℕ → ExportsModel → Type 0
IsShownIn es number e = slice_get es number ≡ Some (Some e)

-- what an outcome comes to is there
abbrev pub HasExports : List (Option ExportsModel) → ImportOutcome → Type 0
HasExports es (outcomes.«Package» number) = (e : ExportsModel) × IsShownIn es number e
HasExports es (outcomes.Refused rule) = ⊤

-- the import at a place has an outcome, and what it comes to is there
pub record IsReady (planned : List (List (List ImportOutcome))) (es : List (Option ExportsModel)) (at : ImportAt) : Type 0 where
  pub outcome : ImportOutcome
  pub is : outcome_at planned at ≡ Some outcome
  pub there : HasExports es outcome

-- the same of each import of a file, and of a package
abbrev pub AreReadyIn : List (List (List ImportOutcome)) → List (Option ExportsModel) → ℕ → ℕ → FileTree → Type 0
AreReadyIn planned es number file f = (n : ℕ) → n < length (file_specs f) → IsReady planned es (import_at number file n)

abbrev pub AreReady : List (List (List ImportOutcome)) → List (Option ExportsModel) → ℕ → Trees → Type 0
AreReady planned es number ts = (file : ℕ) (t : List ℕ × FileTree) → slice_get ts file ≡ Some t → AreReadyIn planned es number file t.1

abbrev pub IsPackageReady : List PackageModel → List (List (List ImportOutcome)) → List (Option ExportsModel) → ℕ → Type 0
IsPackageReady ps planned es number = (p : PackageModel) → slice_get ps number ≡ Some p → AreReady planned es number (trees_of p.1)

-- what the import at a place comes to, by its outcome
pub record IsPlanned (planned : List (List (List ImportOutcome))) (es : List (Option ExportsModel)) (at : ImportAt) (i : Imported) : Type 0 where
  pub outcome : ImportOutcome
  pub is : outcome_at planned at ≡ Some outcome
  pub given : IsGiven (IsShownIn es) outcome i

-- the blocks of a package of a number, and what it shows
pub record IsMadeOf (planned : List (List (List ImportOutcome))) (es : List (Option ExportsModel)) (number : ℕ) (p : PackageModel) (b : BlocksModel) (e : ExportsModel) : Type 0 where
  pub imported : List (List Imported)
  pub given : AreInPackage (IsPlanned planned es) number (trees_of p.1) imported
  pub blocks : AreBlocks (trees_of p.1) (package_named (trees_of p.1) imported) b
  pub exports : e ≡ exports_of p b

-- the same of the package that a list has at the number
pub record IsMadeAt (ps : List PackageModel) (planned : List (List (List ImportOutcome))) (es : List (Option ExportsModel)) (number : ℕ) (b : BlocksModel) (e : ExportsModel) : Type 0 where
  pub of_package : PackageModel
  pub numbered : slice_get ps number ≡ Some of_package
  pub made : IsMadeOf planned es number of_package b e

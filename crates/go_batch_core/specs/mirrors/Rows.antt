-- What a package has by two plans.
use Rattle.std.specs.Prelude.{◌≡◌, ◌<◌, ℕ, Bool, true, List, Some, IsTrue, length, slice_get}
use Rattle.go_digraph_core.specs.reach.Numbers.{Numbers}
use Rattle.go_block_core.specs.graph_core.declared.imports.ImportOutcome.{ImportOutcome}
use Rattle.go_block_core.specs.graph_core.declared.imports.ImportOutcome.TheVariants.{Package}
use Rattle.go_block_core.specs.graph_core.Plans.{PlanModel}
use Rattle.go_block_core.specs.graph_core.Workspaces.{PackageModel}
use Rattle.go_import_core.specs.head.Rows.{HaveSameRows, row_at}

-- the package of a number has a set in both lists, with the same members
abbrev pub HaveSameReached : List Numbers → List Numbers → ℕ → Type 0
HaveSameReached sets others n = (one : Numbers) × (other : Numbers) × (slice_get sets n ≡ Some one) × (slice_get others n ≡ Some other) × (one.members ≡ other.members)

-- what is known of the package of a number that is marked to stay
pub record Stays (p q : PlanModel) (sets others : List Numbers) (ps : List PackageModel) (same : List Bool) (n : ℕ) : Type 0 where
  pub marked : slice_get same n ≡ Some true
  pub package_is : PackageModel
  pub there : slice_get ps n ≡ Some package_is
  pub rows : HaveSameRows p q n (length package_is.1)
  pub reached : HaveSameReached sets others n

abbrev pub StaysIf : Bool → PlanModel → PlanModel → List Numbers → List Numbers → List PackageModel → List Bool → ℕ → Type 0
StaysIf is p q sets others ps same n = IsTrue is → Stays p q sets others ps same n

-- what an import comes to is no package that is marked
abbrev pub IsClear : ImportOutcome → List Bool → Type 0
IsClear o marks = (m : ℕ) → o ≡ Package m → slice_get marks m ≡ Some true → ⊥

-- no import of a file of a package comes by a plan to one that is marked, of those below a number, and of all
abbrev pub IsRowClearTo : PlanModel → ℕ → ℕ → List Bool → ℕ → Type 0
IsRowClearTo p n file marks j = (k : ℕ) → k < j → (m : ℕ) → row_at p.outcomes n file k ≡ Some (Package m) → slice_get marks m ≡ Some true → ⊥

abbrev pub IsRowClear : PlanModel → ℕ → ℕ → List Bool → Type 0
IsRowClear p n file marks = (k m : ℕ) → row_at p.outcomes n file k ≡ Some (Package m) → slice_get marks m ≡ Some true → ⊥

-- and of so many files
abbrev pub AreRowsClear : PlanModel → ℕ → List Bool → ℕ → Type 0
AreRowsClear p n marks files = (file : ℕ) → file < files → IsRowClear p n file marks

-- What a listing shows of a package.
--
-- The Go specification, "Import declarations"; `go help list`, `go help internal`.
use Rattle.std.specs.Prelude.{◌≡◌, ◌↔◌, ℕ, List, Some, Contains, slice_get}
use Rattle.std.specs.List.Sorted.{IsStrictlySortedBy}
use Rattle.go_import_core.specs.path_core.Path.{MayImport, elements}
use Rattle.go_import_core.specs.graph_core.declared.imports.ImportAt.{ImportAt}
use Rattle.go_import_core.specs.graph_core.declared.imports.ImportOutcome.TheVariants.{Package}
use Rattle.go_import_core.specs.graph_core.Imports.{IsNumbered, IsOutcome}
use Rattle.go_import_core.specs.graph_core.Sources.{SourceModel}
use Rattle.go_import_core.specs.graph_core.Workspaces.{IsWorkspace, PackageModel, by_bytes}
use Rattle.go_complete_core.specs.package_core.PackagePartParts.{PartModel}
use Rattle.go_complete_core.specs.snap_core.WholeWorkspaceInputs.{ReachesPackage}
use Rattle.go_complete_core.specs.snap_core.Snapshots.{IsSnapshot, SnapshotModel}

-- a package of a snapshot by its number and its part, as the package of a path sees it
pub record EntryOf : Type 0 where
  pub of_snapshot : SnapshotModel
  pub number : ℕ
  pub of_part : PartModel
  pub from : List ℕ

abbrev pub entry_with : SnapshotModel → ℕ → PartModel → List ℕ → EntryOf
entry_with s number p from = record { of_snapshot = s; number = number; of_part = p; from = from }

pub record IsEntry (e : EntryOf) : Type 0 where
  pub well : IsWorkspace e.of_snapshot.sources
  pub whole : IsSnapshot e.of_snapshot.sources e.of_snapshot.parts e.of_snapshot.faults
  pub there : slice_get e.of_snapshot.parts e.number ≡ Some (Some e.of_part)

-- the package of a number has this path
abbrev pub HasPath : List PackageModel → ℕ → List ℕ → Type 0
HasPath ps number path = (files : List SourceModel) × IsNumbered ps path number files

-- an import in the package of a number comes to the package of a path
abbrev pub Imports : List PackageModel → ℕ → List ℕ → Type 0
Imports ps number path = (at : ImportAt) × (to : ℕ) × (at.«package» ≡ number) × IsOutcome ps at (Package to) × HasPath ps to path

-- imports lead from the package of a number to that of a path
abbrev pub Reaches : List PackageModel → ℕ → List ℕ → Type 0
Reaches ps number path = (to : ℕ) × ReachesPackage ps number to × HasPath ps to path

-- each path of which this is so and that the package `from` may import, once, in byte order, and no other
pub record AreShown (from : List ℕ) (P : List ℕ → Type 0) (paths : List (List ℕ)) : Type 0 where
  pub order : IsStrictlySortedBy by_bytes paths
  pub each : (path : List ℕ) → Contains paths path ↔ (P path × MayImport (elements from) (elements path))

abbrev pub AreImports : EntryOf → List (List ℕ) → Type 0
AreImports e paths = AreShown e.from (Imports e.of_snapshot.sources e.number) paths

abbrev pub AreDeps : EntryOf → List (List ℕ) → Type 0
AreDeps e paths = AreShown e.from (Reaches e.of_snapshot.sources e.number) paths

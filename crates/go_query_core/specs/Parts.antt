-- Parts of snapshots by paths.
use Rattle.std.specs.Prelude.{◌≡◌, ℕ, List, Some, slice_get}
use Rattle.go_import_core.specs.graph_core.Imports.{IsNumbered}
use Rattle.go_import_core.specs.graph_core.Sources.{SourceModel}
use Rattle.go_complete_core.specs.package_core.PackagePartParts.{PartModel}
use Rattle.go_complete_core.specs.snap_core.Snapshots.{SnapshotModel}

-- the package of a path has this number and this part
pub record IsPartOf (s : SnapshotModel) (path : List ℕ) (number : ℕ) (p : PartModel) : Type 0 where
  pub files : List SourceModel
  pub numbered : IsNumbered s.sources path number files
  pub there : slice_get s.parts number ≡ Some (Some p)

-- the package of a number has a part
abbrev pub HasPart : SnapshotModel → ℕ → Type 0
HasPart s number = (p : PartModel) × (slice_get s.parts number ≡ Some (Some p))

-- What stays from one snapshot to another.
use Rattle.std.specs.Prelude.{◌≡◌, ℕ, List, Bool, true, Option, Some, slice_get}
use Rattle.go_graph_core.specs.Workspaces.{PackageModel}
use Rattle.go_emit_core.specs.package_core.PackagePartParts.{PartModel}
use Rattle.go_snap_core.specs.Snapshots.{SnapshotModel}

-- where marked, the package of a number, and its part, are those of this number in the earlier snapshot
pub record StaysWhere (earlier now : SnapshotModel) (same : List Bool) : Type 0 where
  pub packages : (n : ℕ) → slice_get same n ≡ Some true → (a b : PackageModel) → slice_get earlier.sources n ≡ Some a → slice_get now.sources n ≡ Some b → a ≡ b
  pub parts : (n : ℕ) → slice_get same n ≡ Some true → (a b : Option PartModel) → slice_get earlier.parts n ≡ Some a → slice_get now.parts n ≡ Some b → a ≡ b

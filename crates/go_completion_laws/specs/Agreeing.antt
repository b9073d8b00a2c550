-- The parts of packages in two workspaces that differ elsewhere.
--
-- docs/RULES.md, "Parts of packages", "Whole workspaces".
use Rattle.std.specs.Prelude.{◌≡◌, ℕ, List, Option, slice_get}
use Rattle.go_import_core.specs.head.Heads.{HaveSameHeads}
use Rattle.go_graph_core.specs.Workspaces.{IsWorkspace, PackageModel}
use Rattle.go_package_core.specs.package_part.Parts.{PartModel}
use Rattle.go_snap_core.specs.whole_workspace.Inputs.{AreParts, ReachesPackage}

-- where two workspaces have the same heads of files, and of what a package reaches they have the same packages, these have the same parts
abbrev pub ReachedPartsAgree : Type 0
ReachedPartsAgree =
    (ps qs : List PackageModel) (parts others : List (Option PartModel)) (n : ℕ) → IsWorkspace ps → IsWorkspace qs → HaveSameHeads ps qs → AreParts ps parts → AreParts qs others
    → ((m : ℕ) → ReachesPackage ps n m → slice_get ps m ≡ slice_get qs m) → (m : ℕ) → ReachesPackage ps n m → slice_get parts m ≡ slice_get others m

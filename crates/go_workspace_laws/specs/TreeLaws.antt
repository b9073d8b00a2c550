-- Laws of objects and trees.
--
-- docs/RULES.md, "Stack code", "Whole workspaces". The Go specification, "Packages", "Declarations and scope".
use Rattle.std.specs.Prelude.{◌≡◌, ℕ, List, Option, Some, slice_get}
use Rattle.go_graph_core.specs.Workspaces.{PackageModel, IsWorkspace}
use Rattle.go_emit_core.specs.package_core.PackagePartParts.{PartModel}
use Rattle.go_snap_core.specs.whole_workspace.Whole.{AreWhole, WholeOf}
use Rattle.go_emit_core.specs.Emitted.{object_in, object_over, told_by}
use Rattle.go_report_core.specs.summary_core.Views.{faces_told, types_told}
use Rattle.go_snap_core.specs.declared.fault.PlacedFault.{PlacedFault}
use Rattle.go_snap_core.specs.Snapshots.{IsSnapshot}
use Rattle.go_workspace_laws.specs.Trees.{all_faces, all_types, scene_of_trees}
use Rattle.go_emit_core.specs.package_core.PackagePartSlots.{somes}

-- what the packages of a snapshot tell are the types and the faces that the trees of all files give
pub record AreToldByTrees (ws : List (Option WholeOf)) (parts : List (Option PartModel)) : Type 0 where
  pub types : types_told (told_by (somes parts)) ≡ all_types ws
  pub faces : faces_told (told_by (somes parts)) ≡ all_faces ws

abbrev pub TellingIsOfTrees : Type 0
TellingIsOfTrees =
    (ps : List PackageModel) (parts : List (Option PartModel)) (faults : List PlacedFault) (ws : List (Option WholeOf)) → IsWorkspace ps → IsSnapshot ps parts faults → AreWhole ps ws → AreToldByTrees ws parts

-- over what all packages tell, the object of a package is the one over what the trees of all files give
abbrev pub ObjectsAreOfTrees : Type 0
ObjectsAreOfTrees =
    (ps : List PackageModel) (parts : List (Option PartModel)) (faults : List PlacedFault) (ws : List (Option WholeOf)) → IsWorkspace ps → IsSnapshot ps parts faults → AreWhole ps ws
    → (n : ℕ) (p : PartModel) (w : WholeOf) → slice_get parts n ≡ Some (Some p) → slice_get ws n ≡ Some (Some w)
    → object_over (told_by (somes parts)) p.input p.content ≡ object_in (scene_of_trees ws w) p.input p.content

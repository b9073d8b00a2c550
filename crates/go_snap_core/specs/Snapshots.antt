-- Snapshots of workspaces.
--
-- docs/RULES.md, "Whole workspaces".
use Rattle.std.specs.Prelude.{◌≡◌, ℕ, List, Option, Some, Ok, All, map, slice_get}
use Rattle.std.specs.List.{AllZip}
use Rattle.std.specs.List.Sorted.{IsPermutation}
use Rattle.std.specs.Option.{option_map}
use Rattle.go_tree_nodes.specs.Shapes.{file_of}
use Rattle.go_tree_nodes.specs.Trees.{FileTree}
use Rattle.go_graph_core.specs.Sources.{SourceModel}
use Rattle.go_graph_core.specs.Workspaces.{PackageModel}
use Rattle.go_report_core.specs.usage.Used.{FileUse}
use Rattle.go_emit_core.specs.package_core.PackagePartParts.{ContentOf, FileOf, PartModel, file_shown}
use Rattle.go_snap_core.specs.declared.fault.PlacedFault.{PlacedFault}
use Rattle.go_snap_core.specs.declared.found.FileIn.{FileIn}
use Rattle.go_snap_core.specs.Faults.{AreFaults}
use Rattle.go_snap_core.specs.whole_workspace.Inputs.{AreParts}
use Rattle.go_snap_core.specs.whole_workspace.Entries.{IsPartEntry}
use Rattle.go_snap_core.specs.whole_workspace.Whole.{AreWhole, WholeOf}
use Rattle.go_emit_core.specs.package_core.PackagePartSlots.{somes}
pub use Rattle.go_snap_core.specs.make.Finding.{IsPartAt}

abbrev pub contents_of : List (Option PartModel) → List (Option ContentOf)
contents_of ps = map (option_map (λ (p : PartModel). p.content)) ps

-- the parts of the assembled packages of a workspace, of each its own, made from the input that this workspace gives it, and of no other: each once, in
-- any order
pub record ArePartsOf (ps : List PackageModel) (given : List PartModel) : Type 0 where
  pub parts : List (Option PartModel)
  pub are : AreParts ps parts
  pub same : IsPermutation (somes parts) given

-- each assembled package has the part that all trees give it, made from its input, and these are the faults
pub record IsSnapshot (ps : List PackageModel) (parts : List (Option PartModel)) (faults : List PlacedFault) : Type 0 where
  pub made : AreParts ps parts
  pub whole : List (Option WholeOf)
  pub is_whole : AreWhole ps whole
  pub parts_are : AllZip IsPartEntry whole parts
  pub faults_are : AreFaults ps (contents_of parts) faults

-- a workspace with the parts of its packages, by their numbers, and its faults
pub record SnapshotModel : Type 0 where
  pub sources : List PackageModel
  pub parts : List (Option PartModel)
  pub faults : List PlacedFault

abbrev pub snapshot_with : List PackageModel → List (Option PartModel) → List PlacedFault → SnapshotModel
snapshot_with sources parts faults = record { sources = sources; parts = parts; faults = faults }

-- look-ups

-- the occurrence of a number in the file of a name in the package of a path has this
pub record IsAnswerAt (ps : List PackageModel) (parts : List (Option PartModel)) (path name : List ℕ) (n : ℕ) (u : FileUse) : Type 0 where
  pub of_part : PartModel
  pub in_workspace : IsPartAt ps parts path of_part
  pub number : ℕ
  pub source : SourceModel
  pub in_package : slice_get of_part.input.source.1 number ≡ Some source
  pub named : source.name ≡ name
  pub file : FileOf
  pub made : slice_get of_part.content.files number ≡ Some file
  pub answer : slice_get file.answers.uses n ≡ Some u

-- a file of an assembled package: the part of the package, the number of the file there, its source and its tree, and what the part has of it
pub record FoundFile : Type 0 where
  pub of_part : PartModel
  pub number : ℕ
  pub source : SourceModel
  pub tree : FileTree
  pub made : FileOf

abbrev pub file_in_shown : FileIn → FoundFile
file_in_shown f = record { of_part = f.part.now; number = f.number; source = f.source.now; tree = file_of f.tree.now; made = file_shown f.made.now }

-- it is the file of a name in the package of a path
pub record IsFileAt (ps : List PackageModel) (parts : List (Option PartModel)) (path name : List ℕ) (f : FoundFile) : Type 0 where
  pub in_workspace : IsPartAt ps parts path f.of_part
  pub in_package : slice_get f.of_part.input.source.1 f.number ≡ Some f.source
  pub named : f.source.name ≡ name
  pub tree : f.source.content ≡ Ok f.tree
  pub made : slice_get f.of_part.content.files f.number ≡ Some f.made

-- no assembled package of the path has a file of the name
abbrev pub HasNoFile : List PackageModel → List (Option PartModel) → List ℕ → List ℕ → Type 0
HasNoFile ps parts path name = (p : PartModel) → IsPartAt ps parts path p → All (λ f. f.name ≡ name → ⊥) p.input.source.1

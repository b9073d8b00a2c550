-- Laws of whole workspaces.
use Rattle.std.specs.Prelude.{◌≡◌, ℕ, List, Option, Some, None, length, slice_get, slice_set}
use Rattle.std.specs.List.{AllZip}
use Rattle.go_digraph_core.specs.declared.cycle.edge.Edge.{Edge}
use Rattle.go_graph_core.specs.Workspaces.{PackageModel, IsWorkspace}
use Rattle.go_emit_core.specs.package_core.PackagePartInputs.{InputModel}
use Rattle.go_emit_core.specs.package_core.PackagePartParts.{IsPart, PartModel}
use Rattle.go_snap_core.specs.whole_workspace.Inputs.{AreParts, HasReached, IsInputAt, IsPartOf, IsPassingImport}
use Rattle.go_snap_core.specs.whole_workspace.Entries.{IsPartEntry}
use Rattle.go_snap_core.specs.whole_workspace.Whole.{AreWhole, WholeOf}

-- there is at most one answer to a workspace: the blocks of its packages and what their checks give follow from the trees of all files
abbrev pub OneWhole : Type 0
OneWhole = (ps : List PackageModel) (ws vs : List (Option WholeOf)) → IsWorkspace ps → AreWhole ps ws → AreWhole ps vs → ws ≡ vs

-- parts that are made each from its own input, of which none but those of the packages that it reaches is looked at, are what the trees of all
-- packages give
abbrev pub PartsAreWhole : Type 0
PartsAreWhole = (ps : List PackageModel) (parts : List (Option PartModel)) → IsWorkspace ps → AreParts ps parts → (ws : List (Option WholeOf)) × AreWhole ps ws × AllZip IsPartEntry ws parts

-- each part that is there is there still; others may have come
abbrev pub StayThere : List (Option PartModel) → List (Option PartModel) → Type 0
StayThere parts more = (n : ℕ) (part : PartModel) → slice_get parts n ≡ Some (Some part) → slice_get more n ≡ Some (Some part)

-- what the input of a package is, by the parts of those that it reaches, it is still where parts of others come: of any others, and of one that had none
pub record InputsStay : Type 0 where
  pub stay : (ps : List PackageModel) (parts more : List (Option PartModel)) → StayThere parts more → (n : ℕ) (i : InputModel) → IsInputAt ps parts n i → IsInputAt ps more n i
  pub put : (ps : List PackageModel) (parts : List (Option PartModel)) (m : ℕ) (part : PartModel) → slice_get parts m ≡ Some None → (n : ℕ) (i : InputModel) → IsInputAt ps parts n i → IsInputAt ps (slice_set parts m (Some part)) n i

-- the package of a number has a part
abbrev pub HasPart : List (Option PartModel) → ℕ → Type 0
HasPart parts n = (part : PartModel) × (slice_get parts n ≡ Some (Some part))

-- each part is the one of its package by its input
abbrev pub AreOwnParts : List PackageModel → List (Option PartModel) → Type 0
AreOwnParts ps parts = (n : ℕ) (part : PartModel) → slice_get parts n ≡ Some (Some part) → (slice_get ps n ≡ Some part.input.source) × IsPart part.input part.content

-- where each package with a part came behind those that its passing imports come to, a package has all that it reaches as soon as its own passing
-- imports come to packages with parts; and parts that are those of their packages number by number are the parts of the workspace
pub record PartsComeInOrder : Type 0 where
  pub reached : (ps : List PackageModel) (parts : List (Option PartModel)) → AreOwnParts ps parts → ((e : Edge) → IsPassingImport ps e → HasPart parts e.from → HasPart parts e.to)
      → (n : ℕ) → ((e : Edge) → IsPassingImport ps e → e.from ≡ n → HasPart parts e.to) → HasReached ps parts n
  pub all : (ps : List PackageModel) (parts : List (Option PartModel)) → length parts ≡ length ps → ((n : ℕ) (p : PackageModel) (o : Option PartModel) → slice_get ps n ≡ Some p → slice_get parts n ≡ Some o → IsPartOf ps parts n p o) → AreParts ps parts

-- How a workspace differs from an earlier one, and what an edited package has.
use Rattle.std.specs.Prelude.{◌≡◌, ◌≢◌, ℕ, List, Option, Some, length, slice_get}
use Rattle.go_graph_core.specs.Workspaces.{PackageModel}
use Rattle.go_import_core.specs.head.Heads.{HaveSameHeads}
use Rattle.go_emit_core.specs.package_core.PackagePartInputs.{InputModel, input_with}
use Rattle.go_emit_core.specs.package_core.PackagePartParts.{ContentOf, IsPart, PartModel}
use Rattle.go_edit_core.specs.declared.comparing.Change.{Change}
use Rattle.go_edit_core.specs.declared.comparing.Change.TheVariants as change

-- two lists of packages differ at one number alone, where they have two of one path
pub record DifferAt (ps qs : List PackageModel) (n : ℕ) : Type 0 where
  pub many : length ps ≡ length qs
  pub one : PackageModel
  pub there : slice_get ps n ≡ Some one
  pub other : PackageModel
  pub here : slice_get qs n ≡ Some other
  pub path : one.0 ≡ other.0
  pub differ : one ≢ other
  pub beside : (m : ℕ) → m ≢ n → slice_get ps m ≡ slice_get qs m

-- they are the same, or differ so, or in another way
abbrev pub IsChange : List PackageModel → List PackageModel → Change → Type 0
IsChange ps qs change.Nothing = ps ≡ qs
IsChange ps qs (change.One n) = DifferAt ps qs n
IsChange ps qs change.More = (ps ≢ qs) × ((n : ℕ) → DifferAt ps qs n → ⊥)

-- what a package is made from whose imports come to what those of an earlier part came to, and which reaches what that reached
abbrev pub edited_input : PackageModel → PartModel → InputModel
edited_input p old = input_with p old.input.imports old.input.reached

-- the part of a package over what an earlier part was made from, which tells what that told
pub record IsEdited (p : PackageModel) (old new : PartModel) : Type 0 where
  pub input : new.input ≡ edited_input p old
  pub part : IsPart new.input new.content
  pub same : new.content.summary ≡ old.content.summary

-- over this it would tell something else
pub record TellsOther (p : PackageModel) (old : PartModel) : Type 0 where
  pub content : ContentOf
  pub part : IsPart (edited_input p old) content
  pub other : content.summary ≢ old.content.summary

-- the package of a number has such a part in a workspace, whose files have the heads that they had where the earlier parts are from
pub record IsEditedAt (qs ps : List PackageModel) (was : List (Option PartModel)) (n : ℕ) (new : PartModel) : Type 0 where
  pub heads : HaveSameHeads qs ps
  pub old : PartModel
  pub had : slice_get was n ≡ Some (Some old)
  pub own : PackageModel
  pub numbered : slice_get ps n ≡ Some own
  pub edited : IsEdited own old new

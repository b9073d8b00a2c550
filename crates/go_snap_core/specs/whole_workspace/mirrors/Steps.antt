-- What parts are, as far as they are made in the order of a plan.
use Rattle.std.specs.Prelude.{◌≡◌, ℕ, ◌<◌, List, Option, Some, Contains, length, map, slice_get, slice_index, take}
use Rattle.std.specs.List.{AllZip}
use Rattle.std.specs.List.Sorted.{IsStrictlyIncreasing}
use Rattle.std.specs.Option.{option_map}
use Rattle.go_graph_core.specs.Packages.{IsAssembled}
use Rattle.go_digraph_core.specs.reach.Numbers.{Numbers}
use Rattle.go_graph_core.specs.Plans.{PlanModel}
use Rattle.go_graph_core.specs.Workspaces.{PackageModel}
use Rattle.go_names_core.specs.block_core.Exports.{ExportsModel}
use Rattle.go_body_core.specs.table_core.Entries.{Entry}
use Rattle.go_emit_core.specs.declared_core.Packages.{PackageFacesModel}
use Rattle.go_report_core.specs.summary_core.Summaries.{SummaryModel}
use Rattle.go_report_core.specs.summary_core.Views.{exports_told, faces_told, types_told}
use Rattle.go_emit_core.specs.package_core.PackagePartParts.{IsPart, PartModel}
use Rattle.go_snap_core.specs.whole_workspace.Inputs.{IsInputOf, Tells}

-- the part of the package of a number is made from its input, by the parts that are there
pub record IsRight (ps : List PackageModel) (parts : List (Option PartModel)) (n : ℕ) (part : PartModel) : Type 0 where
  pub numbered : slice_get ps n ≡ Some part.input.source
  pub assembled : IsAssembled part.input.source.1
  pub input : IsInputOf ps parts n part.input.source part.input
  pub made : IsPart part.input part.content

abbrev pub AreRight : List PackageModel → List (Option PartModel) → Type 0
AreRight ps parts = (n : ℕ) (part : PartModel) → slice_get parts n ≡ Some (Some part) → IsRight ps parts n part

-- the packages of these numbers have their parts, and no others have any; these are what they tell, in order of the numbers
pub record AreMade (ps : List PackageModel) (done : List ℕ) (parts : List (Option PartModel)) (ss : List SummaryModel) : Type 0 where
  pub count : length parts ≡ length ps
  pub made : (n : ℕ) → Contains done n → (part : PartModel) × (slice_get parts n ≡ Some (Some part))
  pub only : (n : ℕ) (part : PartModel) → slice_get parts n ≡ Some (Some part) → Contains done n
  pub right : AreRight ps parts
  pub told : AllZip (Tells parts) done ss

-- this is seen of packages that tell this
pub record IsSeen (ss : List SummaryModel) (types : List Entry) (shown : List ExportsModel) (faces : List PackageFacesModel) : Type 0 where
  pub types_are : types ≡ types_told ss
  pub shown_are : shown ≡ exports_told ss
  pub faces_are : faces ≡ faces_told ss

-- parts and what is seen of them, up to a place of a plan
pub record SoFar (ps : List PackageModel) (plan : PlanModel) (place : ℕ) (parts : List (Option PartModel)) (types : List Entry) (shown : List ExportsModel) (faces : List PackageFacesModel) : Type 0 where
  pub summaries : List SummaryModel
  pub made : AreMade ps (take place plan.order) parts summaries
  pub seen : IsSeen summaries types shown faces

-- the package of a number is the next one of a plan: those before it have their parts, and this is seen of them
pub record IsNext (ps : List PackageModel) (plan : PlanModel) (parts : List (Option PartModel)) (n : ℕ) (types : List Entry) (shown : List ExportsModel) (faces : List PackageFacesModel) : Type 0 where
  pub place : ℕ
  pub within : place < length plan.order
  pub is : n ≡ slice_index plan.order place
  pub before : SoFar ps plan place parts types shown faces

-- what packages show, by their parts
abbrev pub exports_in : List (Option PartModel) → List (Option ExportsModel)
exports_in parts = map (option_map (λ (p : PartModel). p.content.summary.exports)) parts

-- each package of these numbers has a part
abbrev pub HaveParts : List (Option PartModel) → List ℕ → Type 0
HaveParts parts numbers = (m : ℕ) → Contains numbers m → (s : SummaryModel) × Tells parts m s

-- there is a set of what the package of a number reaches, and each of these has a part
pub record AreReachedAt (sets : List Numbers) (parts : List (Option PartModel)) (n : ℕ) : Type 0 where
  pub set : Numbers
  pub there : slice_get sets n ≡ Some set
  pub have : HaveParts parts set.members

-- what the packages of the set of a number tell, in order of number
pub record AreToldBySet (sets : List Numbers) (parts : List (Option PartModel)) (n : ℕ) (ss : List SummaryModel) : Type 0 where
  pub set : Numbers
  pub there : slice_get sets n ≡ Some set
  pub rising : IsStrictlyIncreasing set.members
  pub told : AllZip (Tells parts) set.members ss

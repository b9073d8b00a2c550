-- What an input gives over what more packages tell than it reaches.
--
-- The Go specification, "Packages", "Import declarations".
use Rattle.std.specs.Prelude.{ℕ, List, Option, Contains}
use Rattle.go_block_core.specs.graph_core.Plans.{IsPlan, PlanModel}
use Rattle.go_block_core.specs.graph_core.Workspaces.{PackageModel, IsWorkspace}
use Rattle.go_typexpr_core.specs.entry.Showing.{shown_in}
use Rattle.go_summary_core.specs.Summaries.{SummaryModel}
use Rattle.go_summary_core.specs.Views.{exports_told, faces_told, types_told}
use Rattle.go_package_core.specs.package_part.Inputs.{InputModel, path_in}
use Rattle.go_package_core.specs.package_part.Parts.{ContentOf, IsMade, IsPart, PartModel, seen_with}
use Rattle.go_snap_core.specs.whole_workspace.Inputs.{IsInputAt}
use Rattle.go_snap_core.specs.whole_workspace.mirrors.Steps.{AreRight}
use Rattle.go_snap_core.proofs.WholeWorkspaceTold.{AreWell}
pub use Rattle.go_snap_core.proofs.WholeWorkspaceTold.{NoneIsOf}

-- each of these is one of those
abbrev pub AreAmong : List SummaryModel → List SummaryModel → Type 0
AreAmong rs ss = (s : SummaryModel) → Contains rs s → Contains ss s

-- over what any packages tell, each path once, among them all that an input reaches and not its own package, what is made of the input is what it gives
-- alone
pub record IsLocal (i : InputModel) : Type 0 where
  pub alone : (ss : List SummaryModel) (c : ContentOf) → AreWell ss → NoneIsOf ss (path_in i) → AreAmong i.reached ss → IsMade i (seen_with (types_told ss) (shown_in (exports_told ss)) (faces_told ss)) c → IsPart i c

-- the inputs of the packages of a workspace are local, where each part that is there is made of its input
abbrev pub InputsAreLocal : Type 0
InputsAreLocal = (ps : List PackageModel) (parts : List (Option PartModel)) (plan : PlanModel) → IsWorkspace ps → IsPlan ps plan → AreRight ps parts → (n : ℕ) (i : InputModel) → IsInputAt ps parts n i → IsLocal i

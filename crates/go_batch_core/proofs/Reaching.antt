-- What a package reaches, by a plan.
use Rattle.std.proofs.Common.{◌≡◌, ℕ, List, get_or, Some}
use Rattle.std.specs.Prelude.{slice_get, Contains}
use Rattle.go_digraph_core.specs.reach.Numbers.{Numbers}
use Rattle.go_block_core.specs.graph_core.Plans.{PlanModel}
use Rattle.go_block_core.specs.graph_core.Workspaces.{PackageModel}
use Rattle.go_snap_core.specs.whole_workspace.Inputs.{ReachesPackage}
use Rattle.go_batch_core.specs.mirrors.Keeping.{IsPlanned}
use Rattle.go_batch_core.proofs.Passing.{passing_from, passing_to}

-- what imports lead to is in the set of the package
pub in_reached : (ps : List PackageModel) (plan : PlanModel) (sets : List Numbers) (n m : ℕ) (set : Numbers) → IsPlanned ps plan sets → slice_get sets n ≡ Some set → ReachesPackage ps n m → Contains set.members m
in_reached ps plan sets n m set planned at reaches =
    (planned.reached n set at m).1 (reaches.0, (λ k d lt. passing_from ps plan (get_or reaches.0 k d) planned.well planned.planned (reaches.1 k d lt)), reaches.2)

-- and what is in the set is led to
pub from_reached : (ps : List PackageModel) (plan : PlanModel) (sets : List Numbers) (n m : ℕ) (set : Numbers) → IsPlanned ps plan sets → slice_get sets n ≡ Some set → Contains set.members m → ReachesPackage ps n m
from_reached ps plan sets n m set planned at has =
    let r = (planned.reached n set at m).0 has in
    (r.0, (λ k d lt. passing_to ps plan (get_or r.0 k d) planned.planned (r.1 k d lt)), r.2)

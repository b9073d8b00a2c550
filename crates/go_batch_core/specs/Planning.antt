-- The plan of a workspace, with what its packages reach.
use Rattle.std.specs.Prelude.{◌≡◌, List, length}
use Rattle.go_block_core.specs.graph_core.Workspaces.{PackageModel, IsWorkspace}
use Rattle.go_block_core.specs.graph_core.Plans.{AreReached, IsPlan, PlanModel}
use Rattle.go_digraph_core.specs.reach.Numbers.{Numbers}

-- the plan of a workspace, and what its packages reach
pub record IsPlanned (ps : List PackageModel) (plan : PlanModel) (sets : List Numbers) : Type 0 where
  pub well : IsWorkspace ps
  pub planned : IsPlan ps plan
  pub reached : AreReached plan sets
  pub many : length sets ≡ length plan.outcomes

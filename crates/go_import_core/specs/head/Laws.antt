-- What heads decide.
use Rattle.std.specs.Prelude.{◌↔◌, List}
use Rattle.go_graph_core.specs.declared.imports.ImportAt.{ImportAt}
use Rattle.go_graph_core.specs.declared.imports.ImportOutcome.{ImportOutcome}
use Rattle.go_graph_core.specs.Imports.{IsOutcome}
use Rattle.go_graph_core.specs.Plans.{IsPlan, PlanModel}
use Rattle.go_graph_core.specs.Workspaces.{PackageModel, IsWorkspace}
use Rattle.go_import_core.specs.head.Heads.{HaveSameHeads}

-- what imports come to follows from the heads
abbrev pub OutcomesStay : Type 0
OutcomesStay = (ps qs : List PackageModel) → IsWorkspace ps → IsWorkspace qs → HaveSameHeads ps qs → (at : ImportAt) (outcome : ImportOutcome) → IsOutcome ps at outcome ↔ IsOutcome qs at outcome

-- and so does the plan
abbrev pub PlansStay : Type 0
PlansStay = (ps qs : List PackageModel) (plan : PlanModel) → IsWorkspace ps → IsWorkspace qs → HaveSameHeads ps qs → IsPlan ps plan → IsPlan qs plan

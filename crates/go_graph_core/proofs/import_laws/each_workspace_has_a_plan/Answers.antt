use Rattle.go_graph_core.proofs.PlanLaws.{has_plan}
use Rattle.go_graph_core.proofs.import_laws.each_workspace_has_a_plan.Goals as goal

pub returns : goal.returns
returns c = has_plan

use Rattle.go_graph_core.proofs.Outcomes.{has_outcome}
use Rattle.go_graph_core.proofs.import_laws.each_import_has_an_outcome.Goals as goal

pub returns : goal.returns
returns c = has_outcome

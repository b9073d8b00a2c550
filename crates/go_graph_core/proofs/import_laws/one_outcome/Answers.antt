use Rattle.go_graph_core.proofs.OutcomeLaws.{has_one_outcome}
use Rattle.go_graph_core.proofs.import_laws.one_outcome.Goals as goal

pub returns : goal.returns
returns c = has_one_outcome

use Rattle.go_graph_core.proofs.Outcomes.{list_of_edges, cycles_are_decided}
use Rattle.go_graph_core.proofs.import_laws.cycles_are_decided.Goals as goal

pub returns-clause-listed : goal.returns-clause-listed
returns-clause-listed c = list_of_edges

pub returns-clause-decided : goal.returns-clause-decided
returns-clause-decided c = cycles_are_decided

use Rattle.go_graph_core.proofs.OutcomeLaws.{cycles_are_assembled}
use Rattle.go_graph_core.proofs.import_laws.cycles_are_assembled.Goals as goal

pub returns : goal.returns
returns c = cycles_are_assembled

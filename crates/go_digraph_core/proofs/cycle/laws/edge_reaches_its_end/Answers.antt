use Rattle.go_digraph_core.proofs.CycleWalks.{reaches_end}
use Rattle.go_digraph_core.proofs.cycle.laws.edge_reaches_its_end.Goals as goal

pub returns : goal.returns
returns c = reaches_end

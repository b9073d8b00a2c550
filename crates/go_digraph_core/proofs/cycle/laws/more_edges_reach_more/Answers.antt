use Rattle.go_digraph_core.proofs.CycleWalks.{by_more}
use Rattle.go_digraph_core.proofs.cycle.laws.more_edges_reach_more.Goals as goal

pub returns : goal.returns
returns c = by_more

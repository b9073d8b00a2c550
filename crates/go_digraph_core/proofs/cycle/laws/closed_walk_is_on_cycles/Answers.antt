use Rattle.go_digraph_core.proofs.CycleWalks.{closed_walk}
use Rattle.go_digraph_core.proofs.cycle.laws.closed_walk_is_on_cycles.Goals as goal

pub returns : goal.returns
returns c = closed_walk

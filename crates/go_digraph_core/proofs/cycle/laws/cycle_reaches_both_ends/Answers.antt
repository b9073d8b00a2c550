use Rattle.go_digraph_core.proofs.CycleWalks.{both_ends}
use Rattle.go_digraph_core.proofs.cycle.laws.cycle_reaches_both_ends.Goals as goal

pub returns : goal.returns
returns c = both_ends

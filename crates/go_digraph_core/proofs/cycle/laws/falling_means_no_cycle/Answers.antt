use Rattle.go_digraph_core.proofs.CycleWalks.{no_cycle}
use Rattle.go_digraph_core.proofs.cycle.laws.falling_means_no_cycle.Goals as goal

pub returns : goal.returns
returns c = no_cycle

use Rattle.go_digraph_core.proofs.CycleWalks.{reach_stays}
use Rattle.go_digraph_core.proofs.cycle.laws.reach_stays_in_range.Goals as goal

pub returns : goal.returns
returns c = reach_stays

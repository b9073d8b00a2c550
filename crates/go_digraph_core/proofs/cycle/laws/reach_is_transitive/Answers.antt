use Rattle.go_digraph_core.proofs.CycleWalks.{reaches_on}
use Rattle.go_digraph_core.proofs.cycle.laws.reach_is_transitive.Goals as goal

pub returns : goal.returns
returns c = reaches_on

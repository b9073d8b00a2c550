use Rattle.go_digraph_core.proofs.ChainCounted.{ends_are_counted}
use Rattle.go_digraph_core.proofs.chain.laws.ends_are_counted.Goals as goal

pub returns : goal.returns
returns c = ends_are_counted

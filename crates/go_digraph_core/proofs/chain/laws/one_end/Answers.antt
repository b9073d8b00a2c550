use Rattle.go_digraph_core.proofs.ChainChained.{one_end}
use Rattle.go_digraph_core.proofs.chain.laws.one_end.Goals as goal

pub returns : goal.returns
returns c = one_end

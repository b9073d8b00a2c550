use Rattle.go_mset_core.proofs.Answering.{one}
use Rattle.go_mset_core.proofs.laws.one_implementation.Goals as goal

pub returns : goal.returns
returns c = one

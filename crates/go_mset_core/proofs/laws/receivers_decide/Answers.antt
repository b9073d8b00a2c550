use Rattle.go_mset_core.proofs.Promoting.{receivers}
use Rattle.go_mset_core.proofs.laws.receivers_decide.Goals as goal

pub returns : goal.returns
returns c = receivers

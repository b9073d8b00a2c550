use Rattle.go_mset_core.proofs.Sets.{selectors}
use Rattle.go_mset_core.proofs.laws.selectors_decide.Goals as goal

pub returns : goal.returns
returns c = selectors

use Rattle.go_handle_core.proofs.DecidingChoosing.{selectors_decided}
use Rattle.go_handle_core.proofs.deciding.laws.selectors_are_decided.Goals as goal

pub returns : goal.returns
returns c = selectors_decided

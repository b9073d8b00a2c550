use Rattle.go_handle_core.proofs.DecidingImplementing.{implementation_decided}
use Rattle.go_handle_core.proofs.deciding.laws.implementation_is_decided.Goals as goal

pub returns : goal.returns
returns c = implementation_decided

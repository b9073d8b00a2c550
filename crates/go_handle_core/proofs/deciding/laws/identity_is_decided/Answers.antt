use Rattle.go_handle_core.proofs.DecidingAlike.{identity_decided}
use Rattle.go_handle_core.proofs.deciding.laws.identity_is_decided.Goals as goal

pub returns : goal.returns
returns c = identity_decided

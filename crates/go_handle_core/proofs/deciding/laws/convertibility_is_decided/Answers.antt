use Rattle.go_handle_core.proofs.DecidingConverting.{convertibility_decided}
use Rattle.go_handle_core.proofs.deciding.laws.convertibility_is_decided.Goals as goal

pub returns : goal.returns
returns c = convertibility_decided

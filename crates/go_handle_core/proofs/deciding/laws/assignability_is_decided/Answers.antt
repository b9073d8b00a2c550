use Rattle.go_handle_core.proofs.DecidingAssigning.{assignability_decided}
use Rattle.go_handle_core.proofs.deciding.laws.assignability_is_decided.Goals as goal

pub returns : goal.returns
returns c = assignability_decided

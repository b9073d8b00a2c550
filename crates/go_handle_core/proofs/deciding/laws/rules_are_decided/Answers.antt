use Rattle.go_handle_core.proofs.DecidingAssigning.{rules_decided}
use Rattle.go_handle_core.proofs.deciding.laws.rules_are_decided.Goals as goal

pub returns : goal.returns
returns c = rules_decided

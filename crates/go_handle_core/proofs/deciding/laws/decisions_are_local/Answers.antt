use Rattle.go_handle_core.proofs.DecidingLocalities.{decisions_local}
use Rattle.go_handle_core.proofs.deciding.laws.decisions_are_local.Goals as goal

pub returns : goal.returns
returns c = decisions_local

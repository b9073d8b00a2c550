use Rattle.go_handle_core.proofs.DecidingHanding.{selections_decided}
use Rattle.go_handle_core.proofs.deciding.laws.selections_are_decided.Goals as goal

pub returns : goal.returns
returns g c = selections_decided _ _

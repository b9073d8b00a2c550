use Rattle.go_handle_core.proofs.DecidingWorked.{types_worked}
use Rattle.go_handle_core.proofs.deciding.laws.worked_types.Goals as goal

pub returns : goal.returns
returns c = types_worked

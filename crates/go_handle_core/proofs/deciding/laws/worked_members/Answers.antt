use Rattle.go_handle_core.proofs.DecidingWorked.{members_worked}
use Rattle.go_handle_core.proofs.deciding.laws.worked_members.Goals as goal

pub returns : goal.returns
returns c = members_worked

use Rattle.go_local_core.proofs.Examples.{worked}
use Rattle.go_local_core.proofs.laws.worked_functions.Goals as goal

pub returns : goal.returns
returns c = worked

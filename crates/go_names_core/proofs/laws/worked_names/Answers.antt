use Rattle.go_names_core.proofs.Worked.{worked}
use Rattle.go_names_core.proofs.laws.worked_names.Goals as goal

pub returns : goal.returns
returns c = worked

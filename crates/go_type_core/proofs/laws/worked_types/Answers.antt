use Rattle.go_type_core.proofs.Worked.{worked}
use Rattle.go_type_core.proofs.laws.worked_types.Goals as goal

pub returns : goal.returns
returns c = worked

use Rattle.go_declared_core.proofs.Worked.{aliases_are_right}
use Rattle.go_declared_core.proofs.laws.worked_alias_faces.Goals as goal

pub returns : goal.returns
returns c = aliases_are_right

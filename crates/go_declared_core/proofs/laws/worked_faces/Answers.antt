use Rattle.go_declared_core.proofs.Worked.{sample_is_right}
use Rattle.go_declared_core.proofs.laws.worked_faces.Goals as goal

pub returns : goal.returns
returns c = sample_is_right

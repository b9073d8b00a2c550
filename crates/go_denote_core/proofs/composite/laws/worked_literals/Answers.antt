use Rattle.go_denote_core.proofs.CompositeSampling.{worked}
use Rattle.go_denote_core.proofs.composite.laws.worked_literals.Goals as goal

pub returns : goal.returns
returns g c = worked

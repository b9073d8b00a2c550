use Rattle.go_constant_core.proofs.Meanings.{divides}
use Rattle.go_constant_core.proofs.laws.division_truncates.Goals as goal

pub returns : goal.returns
returns c = divides

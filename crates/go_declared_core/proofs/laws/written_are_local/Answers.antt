use Rattle.go_declared_core.proofs.Locality.{written_are_local}
use Rattle.go_declared_core.proofs.laws.written_are_local.Goals as goal

pub returns : goal.returns
returns c = written_are_local

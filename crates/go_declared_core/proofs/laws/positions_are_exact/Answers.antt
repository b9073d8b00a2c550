use Rattle.go_declared_core.proofs.Places.{positions_are_exact}
use Rattle.go_declared_core.proofs.laws.positions_are_exact.Goals as goal

pub returns : goal.returns
returns c = positions_are_exact

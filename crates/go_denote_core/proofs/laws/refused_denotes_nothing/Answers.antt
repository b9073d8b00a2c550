use Rattle.go_denote_core.proofs.Agreements.{agree}
use Rattle.go_denote_core.proofs.laws.refused_denotes_nothing.Goals as goal

pub returns : goal.returns
returns g c = agree

use Rattle.go_denote_core.proofs.Locality.{names_local}
use Rattle.go_denote_core.proofs.laws.names_are_local.Goals as goal

pub returns : goal.returns
returns g c = names_local

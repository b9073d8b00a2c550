use Rattle.go_denote_core.proofs.Locality.{selectors_local}
use Rattle.go_denote_core.proofs.laws.selectors_are_local.Goals as goal

pub returns : goal.returns
returns g c = selectors_local

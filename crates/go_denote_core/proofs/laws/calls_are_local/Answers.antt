use Rattle.go_denote_core.proofs.Locality.{calls_local}
use Rattle.go_denote_core.proofs.laws.calls_are_local.Goals as goal

pub returns : goal.returns
returns g c = calls_local

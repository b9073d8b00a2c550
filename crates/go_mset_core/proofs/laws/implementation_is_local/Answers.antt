use Rattle.go_mset_core.proofs.Locality.{local}
use Rattle.go_mset_core.proofs.laws.implementation_is_local.Goals as goal

pub returns : goal.returns
returns c = local

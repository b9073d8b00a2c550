use Rattle.go_denote_core.proofs.Locality.{own_name}
use Rattle.go_denote_core.proofs.laws.own_name_decides_name.Goals as goal

pub returns : goal.returns
returns g c = own_name

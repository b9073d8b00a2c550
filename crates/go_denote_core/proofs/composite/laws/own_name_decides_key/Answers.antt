use Rattle.go_denote_core.proofs.CompositeKeyLaws.{own_name}
use Rattle.go_denote_core.proofs.composite.laws.own_name_decides_key.Goals as goal

pub returns : goal.returns
returns g c = own_name

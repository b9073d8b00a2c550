use Rattle.go_denote_core.proofs.Locality.{own_selector}
use Rattle.go_denote_core.proofs.laws.own_name_decides_selector.Goals as goal

pub returns : goal.returns
returns g c = own_selector

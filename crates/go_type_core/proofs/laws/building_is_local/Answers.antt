use Rattle.go_type_core.proofs.Elsewhere.{building_is_local}
use Rattle.go_type_core.proofs.laws.building_is_local.Goals as goal

pub returns : goal.returns
returns c = building_is_local

use Rattle.go_decl_core.proofs.OnePlace.{one_key_a_place}
use Rattle.go_decl_core.proofs.laws.one_key_a_place.Goals as goal

pub returns : goal.returns
returns c = one_key_a_place

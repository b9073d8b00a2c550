use Rattle.go_decl_core.proofs.OnePlace.{places_are_one_to_one}
use Rattle.go_decl_core.proofs.laws.places_are_one_to_one.Goals as goal

pub returns : goal.returns
returns c = places_are_one_to_one

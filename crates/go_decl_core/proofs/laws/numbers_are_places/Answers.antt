use Rattle.go_decl_core.proofs.Numbers.{numbers_are_places}
use Rattle.go_decl_core.proofs.laws.numbers_are_places.Goals as goal

pub returns : goal.returns
returns c = numbers_are_places

use Rattle.go_decl_core.proofs.Declared.{places_are_declared}
use Rattle.go_decl_core.proofs.laws.places_are_declared.Goals as goal

pub returns : goal.returns
returns c = places_are_declared

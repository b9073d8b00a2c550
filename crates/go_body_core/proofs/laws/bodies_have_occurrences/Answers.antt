use Rattle.go_body_core.proofs.Places.{bodies_have_occurrences}
use Rattle.go_body_core.proofs.laws.bodies_have_occurrences.Goals as goal

pub returns : goal.returns
returns c = bodies_have_occurrences

use Rattle.go_emit_core.proofs.Bodies.{bodies_are_between_braces}
use Rattle.go_emit_core.proofs.laws.bodies_are_between_braces.Goals as goal

pub returns : goal.returns
returns c = bodies_are_between_braces c.part_has_occurrences.ensures c.occurrences_are_written.ensures

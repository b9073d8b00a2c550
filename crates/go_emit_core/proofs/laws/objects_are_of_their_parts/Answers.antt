use Rattle.go_emit_core.proofs.Several.{objects_are_of_their_parts}
use Rattle.go_emit_core.proofs.laws.objects_are_of_their_parts.Goals as goal

pub returns : goal.returns
returns c = objects_are_of_their_parts

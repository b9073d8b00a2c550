use Rattle.go_emit_core.proofs.Faultless.{objects_are_of_faultless}
use Rattle.go_emit_core.proofs.laws.objects_are_of_faultless.Goals as goal

pub returns : goal.returns
returns c = objects_are_of_faultless

use Rattle.go_locality_laws.proofs.Standing.{inputs_stand}
use Rattle.go_locality_laws.proofs.imports.inputs_stand_over.Goals as goal

pub returns : goal.returns
returns c = inputs_stand

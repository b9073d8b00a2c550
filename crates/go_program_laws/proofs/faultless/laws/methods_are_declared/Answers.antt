use Rattle.go_program_laws.proofs.FaultlessSigns.{methods_declared}
use Rattle.go_program_laws.proofs.faultless.laws.methods_are_declared.Goals as goal

pub returns : goal.returns
returns c = methods_declared

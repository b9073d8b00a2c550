use Rattle.go_program_laws.proofs.FaultlessSigns.{methods_give}
use Rattle.go_program_laws.proofs.faultless.laws.methods_give_theirs.Goals as goal

pub returns : goal.returns
returns c = methods_give c.parts_are_fit.ensures c.check_is_local.ensures c.imports_bind_theirs.ensures

use Rattle.go_program_laws.proofs.FaultlessServed.{constants_served}
use Rattle.go_program_laws.proofs.faultless.laws.constants_are_served.Goals as goal

pub returns : goal.returns
returns c = constants_served c.parts_are_fit.ensures c.functions_keep_types.ensures c.parts_tell_kept.ensures

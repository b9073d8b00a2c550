use Rattle.go_program_laws.proofs.FaultlessServed.{functions_served}
use Rattle.go_program_laws.proofs.faultless.laws.functions_are_served.Goals as goal

pub returns : goal.returns
returns c = functions_served c.integers_are_given.ensures c.constants_are_served.ensures c.names_are_read.ensures

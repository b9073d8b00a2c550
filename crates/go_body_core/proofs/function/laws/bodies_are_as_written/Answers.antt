use Rattle.go_body_core.proofs.FunctionBodies.{bodies_are_as_written}
use Rattle.go_body_core.proofs.function.laws.bodies_are_as_written.Goals as goal

pub returns : goal.returns
returns c = bodies_are_as_written

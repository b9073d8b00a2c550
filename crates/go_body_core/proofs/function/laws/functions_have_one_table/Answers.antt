use Rattle.go_body_core.proofs.FunctionBodies.{functions_have_one_table}
use Rattle.go_body_core.proofs.function.laws.functions_have_one_table.Goals as goal

pub returns : goal.returns
returns c = functions_have_one_table

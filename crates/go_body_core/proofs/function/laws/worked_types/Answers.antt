use Rattle.go_body_core.proofs.FunctionExamples.{worked_types}
use Rattle.go_body_core.proofs.function.laws.worked_types.Goals as goal

pub returns : goal.returns
returns c = worked_types

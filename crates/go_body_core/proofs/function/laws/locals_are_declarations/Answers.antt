use Rattle.go_body_core.proofs.FunctionLocals.{locals_are_declarations}
use Rattle.go_body_core.proofs.function.laws.locals_are_declarations.Goals as goal

pub returns : goal.returns
returns c = locals_are_declarations

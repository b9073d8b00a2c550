use Rattle.go_stmt_core.proofs.StatementTyping.{variables}
use Rattle.go_stmt_core.proofs.statement.laws.variables_are_declared.Goals as goal

pub returns : goal.returns
returns g c = variables

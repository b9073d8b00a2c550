use Rattle.go_stmt_core.proofs.StatementSamples.{worked}
use Rattle.go_stmt_core.proofs.statement.laws.worked_statements.Goals as goal

pub returns : goal.returns
returns g c = worked

use Rattle.go_stmt_core.proofs.StatementAssigning.{assignments}
use Rattle.go_stmt_core.proofs.statement.laws.assignments_stand.Goals as goal

pub returns : goal.returns
returns g c = assignments

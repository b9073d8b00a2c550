use Rattle.go_stmt_core.proofs.StatementAlike.{local}
use Rattle.go_stmt_core.proofs.statement.laws.statements_are_local.Goals as goal

pub returns : goal.returns
returns g c = local

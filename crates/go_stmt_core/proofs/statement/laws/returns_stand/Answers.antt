use Rattle.go_stmt_core.proofs.StatementReturning.{returns_well}
use Rattle.go_stmt_core.proofs.statement.laws.returns_stand.Goals as goal

pub returns : goal.returns
returns g c = returns_well

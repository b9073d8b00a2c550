use Rattle.go_stmt_core.proofs.StatementStanding.{calls}
use Rattle.go_stmt_core.proofs.statement.laws.calls_stand.Goals as goal

pub returns : goal.returns
returns g c = calls

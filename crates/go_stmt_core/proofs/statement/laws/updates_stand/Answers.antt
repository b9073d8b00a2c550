use Rattle.go_stmt_core.proofs.StatementStanding.{updates}
use Rattle.go_stmt_core.proofs.statement.laws.updates_stand.Goals as goal

pub returns : goal.returns
returns g c = updates

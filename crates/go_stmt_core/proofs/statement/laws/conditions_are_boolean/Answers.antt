use Rattle.go_stmt_core.proofs.StatementStanding.{conditions}
use Rattle.go_stmt_core.proofs.statement.laws.conditions_are_boolean.Goals as goal

pub returns : goal.returns
returns g c = conditions

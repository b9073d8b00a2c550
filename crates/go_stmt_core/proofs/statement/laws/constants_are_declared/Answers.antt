use Rattle.go_stmt_core.proofs.StatementKnowing.{constants}
use Rattle.go_stmt_core.proofs.statement.laws.constants_are_declared.Goals as goal

pub returns : goal.returns
returns g c = constants

use Rattle.go_stmt_core.proofs.StatementAssigning.{addressable_targets}
use Rattle.go_stmt_core.proofs.statement.laws.targets_are_addressable.Goals as goal

pub returns : goal.returns
returns g c = addressable_targets

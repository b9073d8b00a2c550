use Rattle.go_stmt_core.proofs.StatementTyping.{shorts}
use Rattle.go_stmt_core.proofs.statement.laws.short_declarations.Goals as goal

pub returns : goal.returns
returns g c = shorts

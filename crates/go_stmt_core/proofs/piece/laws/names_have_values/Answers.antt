use Rattle.go_stmt_core.proofs.PieceCounting.{names_have}
use Rattle.go_stmt_core.proofs.piece.laws.names_have_values.Goals as goal

pub returns : goal.returns
returns g c = names_have _ _ _ _

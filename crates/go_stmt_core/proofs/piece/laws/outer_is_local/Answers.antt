use Rattle.go_stmt_core.proofs.PieceLocal.{outer_local}
use Rattle.go_stmt_core.proofs.piece.laws.outer_is_local.Goals as goal

pub returns : goal.returns
returns g c = outer_local _ _ _ _

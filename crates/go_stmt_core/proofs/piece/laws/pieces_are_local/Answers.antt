use Rattle.go_stmt_core.proofs.PieceLocal.{pieces_local}
use Rattle.go_stmt_core.proofs.piece.laws.pieces_are_local.Goals as goal

pub returns : goal.returns
returns g c = pieces_local _ _ _ _

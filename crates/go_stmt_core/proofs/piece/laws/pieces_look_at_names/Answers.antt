use Rattle.go_stmt_core.proofs.PieceShown.{pieces_look}
use Rattle.go_stmt_core.proofs.piece.laws.pieces_look_at_names.Goals as goal

pub returns : goal.returns
returns g c = pieces_look _ _ _ _ _ _

use Rattle.go_stmt_core.proofs.PieceOccurring.{pieces_occur}
use Rattle.go_stmt_core.proofs.piece.laws.pieces_have_occurrences.Goals as goal

pub returns : goal.returns
returns g c = pieces_occur _ _ _ _

use Rattle.go_stmt_core.proofs.PieceExamples.{worked}
use Rattle.go_stmt_core.proofs.piece.laws.worked_pieces.Goals as goal

pub returns : goal.returns
returns c = worked

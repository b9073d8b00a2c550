use Rattle.go_body_core.proofs.pieces.RecalledPiecesChecker.check_given.Goals as goal

pub returns : goal.returns
returns g c = c.note_piece.ensures

use Rattle.go_complete_core.proofs.SpellingPieces.{pieces_stay}
use Rattle.go_complete_core.proofs.spelling.piece_laws.piece_contexts_stay.Goals as goal

pub returns : goal.returns
returns g c = pieces_stay _ _ _ _

use Rattle.go_complete_core.proofs.SpellingPieceStaying.{needed_stays}
use Rattle.go_complete_core.proofs.spelling.piece_laws.needed_stays.Goals as goal

pub returns : goal.returns
returns g c = needed_stays _

use Rattle.go_complete_core.proofs.SpellingPieceStaying.{untouched_stays}
use Rattle.go_complete_core.proofs.spelling.piece_laws.untouched_stays.Goals as goal

pub returns : goal.returns
returns g c = untouched_stays _

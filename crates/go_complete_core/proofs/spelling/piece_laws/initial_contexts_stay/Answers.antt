use Rattle.go_complete_core.proofs.SpellingAnew.{initial_stays}
use Rattle.go_complete_core.proofs.spelling.piece_laws.initial_contexts_stay.Goals as goal

pub returns : goal.returns
returns c = initial_stays

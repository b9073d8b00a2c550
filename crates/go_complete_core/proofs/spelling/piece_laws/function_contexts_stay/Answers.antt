use Rattle.go_complete_core.proofs.SpellingWalks.{functions_stay}
use Rattle.go_complete_core.proofs.spelling.piece_laws.function_contexts_stay.Goals as goal

pub returns : goal.returns
returns g c = functions_stay _ _ _ _ _

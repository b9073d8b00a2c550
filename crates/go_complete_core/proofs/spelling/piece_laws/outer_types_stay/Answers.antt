use Rattle.go_complete_core.proofs.SpellingTypes.{outer_types_stay}
use Rattle.go_complete_core.proofs.spelling.piece_laws.outer_types_stay.Goals as goal

pub returns : goal.returns
returns c = outer_types_stay

use Rattle.go_complete_core.proofs.SpellingPlain.{as_ever}
use Rattle.go_complete_core.proofs.spelling.piece_laws.faces_are_as_ever.Goals as goal

pub returns : goal.returns
returns c = as_ever

use Rattle.go_complete_core.proofs.SpellingPlain.{no_names}
use Rattle.go_complete_core.proofs.spelling.piece_laws.behind_dots_no_names.Goals as goal

pub returns : goal.returns
returns g c = no_names _ _ _ _

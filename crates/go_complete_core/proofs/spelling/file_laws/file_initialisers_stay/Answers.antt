use Rattle.go_complete_core.proofs.SpellingInitials.{files_stay}
use Rattle.go_complete_core.proofs.spelling.file_laws.file_initialisers_stay.Goals as goal

pub returns : goal.returns
returns c = files_stay

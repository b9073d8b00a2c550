use Rattle.go_complete_core.proofs.SpellingChecked.{checked_stay}
use Rattle.go_complete_core.proofs.spelling.file_laws.checked_functions_stay.Goals as goal

pub returns : goal.returns
returns c = checked_stay

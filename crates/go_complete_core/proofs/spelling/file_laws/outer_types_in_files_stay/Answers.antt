use Rattle.go_complete_core.proofs.SpellingOuter.{outer_stay}
use Rattle.go_complete_core.proofs.spelling.file_laws.outer_types_in_files_stay.Goals as goal

pub returns : goal.returns
returns c = outer_stay

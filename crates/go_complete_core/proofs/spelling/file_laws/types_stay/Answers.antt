use Rattle.go_complete_core.proofs.SpellingEntries.{types_stay}
use Rattle.go_complete_core.proofs.spelling.file_laws.types_stay.Goals as goal

pub returns : goal.returns
returns c = types_stay

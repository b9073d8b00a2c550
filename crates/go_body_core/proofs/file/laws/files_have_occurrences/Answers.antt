use Rattle.go_body_core.proofs.FileOccurring.{files_have_occurrences}
use Rattle.go_body_core.proofs.file.laws.files_have_occurrences.Goals as goal

pub returns : goal.returns
returns c = files_have_occurrences

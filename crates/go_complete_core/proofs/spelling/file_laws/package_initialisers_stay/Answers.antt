use Rattle.go_complete_core.proofs.SpellingInitials.{initialisers_stay}
use Rattle.go_complete_core.proofs.spelling.file_laws.package_initialisers_stay.Goals as goal

pub returns : goal.returns
returns c = initialisers_stay

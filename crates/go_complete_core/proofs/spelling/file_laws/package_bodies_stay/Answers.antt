use Rattle.go_complete_core.proofs.SpellingFileBodies.{bodies_stay}
use Rattle.go_complete_core.proofs.spelling.file_laws.package_bodies_stay.Goals as goal

pub returns : goal.returns
returns c = bodies_stay

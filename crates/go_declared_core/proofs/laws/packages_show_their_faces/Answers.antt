use Rattle.go_declared_core.proofs.Displaying.{faces_are_found, shows_its_block}
use Rattle.go_declared_core.proofs.laws.packages_show_their_faces.Goals as goal

pub returns-clause-block : goal.returns-clause-block
returns-clause-block c = shows_its_block

pub returns-clause-faces : goal.returns-clause-faces
returns-clause-faces c = faces_are_found

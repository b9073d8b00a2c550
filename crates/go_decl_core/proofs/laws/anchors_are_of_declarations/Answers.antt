use Rattle.go_decl_core.proofs.AnchorLemmas.{anchors_are_of_declarations}
use Rattle.go_decl_core.proofs.laws.anchors_are_of_declarations.Goals as goal

pub returns : goal.returns
returns c = anchors_are_of_declarations

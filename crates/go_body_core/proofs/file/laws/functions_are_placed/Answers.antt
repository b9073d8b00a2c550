use Rattle.go_body_core.proofs.FilePlaced.{funcs_placed}
use Rattle.go_body_core.proofs.file.laws.functions_are_placed.Goals as goal

pub returns : goal.returns
returns c = funcs_placed

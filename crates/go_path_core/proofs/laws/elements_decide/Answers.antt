use Rattle.go_path_core.proofs.PathLaws.{elements_decide}
use Rattle.go_path_core.proofs.laws.elements_decide.Goals as goal

pub returns : goal.returns
returns c = elements_decide

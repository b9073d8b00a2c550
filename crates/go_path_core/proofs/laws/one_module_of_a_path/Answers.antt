use Rattle.go_path_core.proofs.PathLaws.{one_module_of_a_path}
use Rattle.go_path_core.proofs.laws.one_module_of_a_path.Goals as goal

pub returns : goal.returns
returns c = one_module_of_a_path

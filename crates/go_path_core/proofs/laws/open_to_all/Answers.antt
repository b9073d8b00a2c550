use Rattle.go_path_core.proofs.PathLaws.{open_to_all}
use Rattle.go_path_core.proofs.laws.open_to_all.Goals as goal

pub returns : goal.returns
returns c = open_to_all

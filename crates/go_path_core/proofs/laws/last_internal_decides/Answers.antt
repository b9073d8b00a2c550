use Rattle.go_path_core.proofs.PathLaws.{last_internal_decides}
use Rattle.go_path_core.proofs.laws.last_internal_decides.Goals as goal

pub returns : goal.returns
returns c = last_internal_decides

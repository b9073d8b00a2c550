use Rattle.go_path_core.proofs.PathLaws.{overlap_is_decided}
use Rattle.go_path_core.proofs.laws.overlap_is_decided.Goals as goal

pub returns : goal.returns
returns c = overlap_is_decided

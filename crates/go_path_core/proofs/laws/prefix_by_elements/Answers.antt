use Rattle.go_path_core.proofs.PathLaws.{prefix_by_elements}
use Rattle.go_path_core.proofs.laws.prefix_by_elements.Goals as goal

pub returns : goal.returns
returns c = prefix_by_elements

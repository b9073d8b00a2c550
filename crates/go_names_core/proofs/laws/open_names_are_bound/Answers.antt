use Rattle.go_names_core.proofs.SceneLemmas.{open_names_are_bound}
use Rattle.go_names_core.proofs.laws.open_names_are_bound.Goals as goal

pub returns : goal.returns
returns g c = open_names_are_bound _ _

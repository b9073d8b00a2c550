use Rattle.go_select_core.proofs.Short.{short_paths}
use Rattle.go_select_core.proofs.laws.short_paths_suffice.Goals as goal

pub returns : goal.returns
returns c = short_paths

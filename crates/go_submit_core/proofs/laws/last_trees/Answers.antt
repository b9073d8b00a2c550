use Rattle.go_submit_core.proofs.Trees.{last_trees}
use Rattle.go_submit_core.proofs.laws.last_trees.Goals as goal

pub returns : goal.returns
returns c = last_trees

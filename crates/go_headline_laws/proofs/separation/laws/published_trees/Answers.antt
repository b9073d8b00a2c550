use Rattle.go_headline_laws.proofs.SeparationTrees.{published_trees}
use Rattle.go_headline_laws.proofs.separation.laws.published_trees.Goals as goal

pub returns : goal.returns
returns c = published_trees

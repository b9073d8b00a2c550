use Rattle.go_submit_core.proofs.Trees.{published_modules, published_paths}
use Rattle.go_submit_core.proofs.laws.published_trees.Goals as goal

pub returns-clause-paths : goal.returns-clause-paths
returns-clause-paths c = published_paths

pub returns-clause-modules : goal.returns-clause-modules
returns-clause-modules c = published_modules

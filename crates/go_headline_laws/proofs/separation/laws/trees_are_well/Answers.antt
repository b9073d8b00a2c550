use Rattle.go_headline_laws.proofs.SeparationTrees.{sources_are_well, trees_are_well}
use Rattle.go_headline_laws.proofs.separation.laws.trees_are_well.Goals as goal

pub returns-clause-trees : goal.returns-clause-trees
returns-clause-trees c = trees_are_well

pub returns-clause-sources : goal.returns-clause-sources
returns-clause-sources c = sources_are_well

use Rattle.go_spec_laws.proofs.FrontHeightPaths as law
use Rattle.go_spec_laws.proofs.front.height_laws.heights_are_of_paths.Goals as goal

pub returns : goal.returns
returns c = law.heights_are_of_paths

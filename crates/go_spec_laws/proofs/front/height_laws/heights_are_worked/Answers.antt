use Rattle.go_spec_laws.proofs.FrontHeightCounts as law
use Rattle.go_spec_laws.proofs.front.height_laws.heights_are_worked.Goals as goal

pub returns : goal.returns
returns c = law.heights_are_worked

use Rattle.go_spec_laws.proofs.EndingBreaking.{are_found}
use Rattle.go_spec_laws.proofs.ending.laws.breaks_are_found.Goals as goal

pub returns : goal.returns
returns c = are_found

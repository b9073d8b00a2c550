use Rattle.go_spec_laws.proofs.EndingStraying.{are_faults}
use Rattle.go_spec_laws.proofs.ending.laws.strays_are_faults.Goals as goal

pub returns : goal.returns
returns c = are_faults

use Rattle.go_spec_laws.proofs.EndingLacking.{are_lacked}
use Rattle.go_spec_laws.proofs.ending.laws.lacked_returns_are_faults.Goals as goal

pub returns : goal.returns
returns c = are_lacked

use Rattle.go_spec_laws.proofs.EndingTerminating.{are_terminating_ones}
use Rattle.go_spec_laws.proofs.ending.laws.endings_are_terminating.Goals as goal

pub returns : goal.returns
returns c = are_terminating_ones

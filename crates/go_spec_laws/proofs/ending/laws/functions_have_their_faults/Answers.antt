use Rattle.go_spec_laws.proofs.EndingHaving.{are_theirs}
use Rattle.go_spec_laws.proofs.ending.laws.functions_have_their_faults.Goals as goal

pub returns : goal.returns
returns c = are_theirs

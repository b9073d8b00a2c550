use Rattle.go_mset_core.proofs.Lacking.{have_none}
use Rattle.go_mset_core.proofs.laws.have_no_methods.Goals as goal

pub returns : goal.returns
returns c = have_none

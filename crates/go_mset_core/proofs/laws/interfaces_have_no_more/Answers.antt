use Rattle.go_mset_core.proofs.Interfaces.{no_more}
use Rattle.go_mset_core.proofs.laws.interfaces_have_no_more.Goals as goal

pub returns : goal.returns
returns c = no_more

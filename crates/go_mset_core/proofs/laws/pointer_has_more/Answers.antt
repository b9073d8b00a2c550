use Rattle.go_mset_core.proofs.Promoting.{pointer_has_more}
use Rattle.go_mset_core.proofs.laws.pointer_has_more.Goals as goal

pub returns : goal.returns
returns c = pointer_has_more

use Rattle.go_mset_core.proofs.Promoting.{implements_more}
use Rattle.go_mset_core.proofs.laws.pointer_implements_more.Goals as goal

pub returns : goal.returns
returns c = implements_more

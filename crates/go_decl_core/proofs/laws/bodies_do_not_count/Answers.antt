use Rattle.go_decl_core.proofs.Alike.{bodies_do_not_count}
use Rattle.go_decl_core.proofs.laws.bodies_do_not_count.Goals as goal

pub returns : goal.returns
returns c = bodies_do_not_count

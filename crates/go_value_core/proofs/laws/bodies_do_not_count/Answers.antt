use Rattle.go_value_core.proofs.Deciding.{bodies_do_not_count}
use Rattle.go_value_core.proofs.laws.bodies_do_not_count.Goals as goal

pub returns : goal.returns
returns c = bodies_do_not_count

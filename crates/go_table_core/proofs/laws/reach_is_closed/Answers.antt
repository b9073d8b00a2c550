use Rattle.go_table_core.proofs.Reaching.{reach_closed}
use Rattle.go_table_core.proofs.laws.reach_is_closed.Goals as goal

pub returns : goal.returns
returns c = reach_closed

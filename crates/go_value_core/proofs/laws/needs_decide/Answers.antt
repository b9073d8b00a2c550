use Rattle.go_value_core.proofs.Deciding.{needs_decide}
use Rattle.go_value_core.proofs.laws.needs_decide.Goals as goal

pub returns : goal.returns
returns c = needs_decide

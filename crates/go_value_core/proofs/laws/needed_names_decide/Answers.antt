use Rattle.go_value_core.proofs.Deciding.{names_decide}
use Rattle.go_value_core.proofs.laws.needed_names_decide.Goals as goal

pub returns : goal.returns
returns g c = names_decide _ _ _ _

use Rattle.go_denote_core.proofs.FirstRules.{first_of_call}
use Rattle.go_denote_core.proofs.laws.first_rule_of_call.Goals as goal

pub returns : goal.returns
returns g c = first_of_call

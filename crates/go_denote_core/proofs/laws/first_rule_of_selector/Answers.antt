use Rattle.go_denote_core.proofs.FirstRules.{first_of_selector}
use Rattle.go_denote_core.proofs.laws.first_rule_of_selector.Goals as goal

pub returns : goal.returns
returns g c = first_of_selector

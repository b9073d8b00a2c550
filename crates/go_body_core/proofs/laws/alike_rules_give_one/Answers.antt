use Rattle.go_body_core.proofs.Agreement.{alike_rules_give_one}
use Rattle.go_body_core.proofs.laws.alike_rules_give_one.Goals as goal

pub returns : goal.returns
returns g c = alike_rules_give_one _ _

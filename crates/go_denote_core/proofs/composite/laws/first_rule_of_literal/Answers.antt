use Rattle.go_denote_core.proofs.CompositeLiteralLaws.{first_of_literal}
use Rattle.go_denote_core.proofs.composite.laws.first_rule_of_literal.Goals as goal

pub returns : goal.returns
returns g c = first_of_literal

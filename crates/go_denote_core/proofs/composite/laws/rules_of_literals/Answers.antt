use Rattle.go_denote_core.proofs.CompositeLiteralLaws.{rules_of_literals}
use Rattle.go_denote_core.proofs.composite.laws.rules_of_literals.Goals as goal

pub returns : goal.returns
returns g c = rules_of_literals

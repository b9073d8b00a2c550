use Rattle.go_expr_core.proofs.Occurring.{uses_occur}
use Rattle.go_expr_core.proofs.laws.uses_are_occurrences.Goals as goal

pub returns : goal.returns
returns g c = uses_occur _ _ _ _

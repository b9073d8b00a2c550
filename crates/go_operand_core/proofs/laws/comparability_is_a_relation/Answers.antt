use Rattle.go_operand_core.proofs.Relating.{compared, compares}
use Rattle.go_operand_core.proofs.laws.comparability_is_a_relation.Goals as goal

pub returns : goal.returns
returns g c = λ rules v w. (compared rules v w, compares rules v w)

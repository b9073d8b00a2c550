use Rattle.go_operand_core.proofs.Relating.{shared, shares}
use Rattle.go_operand_core.proofs.laws.common_is_a_relation.Goals as goal

pub returns : goal.returns
returns g c = λ rules v w both. (shared rules v w both, shares rules v w both)

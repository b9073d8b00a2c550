use Rattle.go_operand_core.proofs.Relating.{assigned, assigns}
use Rattle.go_operand_core.proofs.laws.assignability_is_a_relation.Goals as goal

pub returns : goal.returns
returns g c = λ rules o t. (assigned rules o.value_type t, assigns rules o.value_type t)

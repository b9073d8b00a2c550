use Rattle.go_operand_core.proofs.Tables.{table}
use Rattle.go_operand_core.proofs.laws.operators_are_told_apart.Goals as goal

pub returns : goal.returns
returns g c = table

use Rattle.go_operand_core.proofs.Refusing.{by_zero, misfit}
use Rattle.go_operand_core.proofs.laws.no_division_by_zero.Goals as goal

pub returns : goal.returns
returns g c = record { by_zero = by_zero; misfit = misfit }

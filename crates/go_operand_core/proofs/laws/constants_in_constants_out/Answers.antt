use Rattle.go_operand_core.proofs.Typing.{of_two, of_one}
use Rattle.go_operand_core.proofs.laws.constants_in_constants_out.Goals as goal

pub returns : goal.returns
returns g c = record { of_two = of_two; of_one = of_one }

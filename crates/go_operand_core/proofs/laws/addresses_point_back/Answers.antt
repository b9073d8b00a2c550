use Rattle.go_operand_core.proofs.Varying.{address, no_variable, no_address, points, back, no_pointer}
use Rattle.go_operand_core.proofs.laws.addresses_point_back.Goals as goal

pub returns : goal.returns
returns g c = record { address = address; no_variable = no_variable; no_type = no_address; pointed = points; back = back; no_pointer = no_pointer }

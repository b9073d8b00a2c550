use Rattle.go_operand_core.proofs.Varying.{accepted, own, incremented}
use Rattle.go_operand_core.proofs.laws.updates_assign.Goals as goal

pub returns : goal.returns
returns g c = record { accepted = accepted; own = own; increment = incremented }

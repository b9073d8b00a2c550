use Rattle.go_operand_core.proofs.Typing.{own_type, ordered_type, equated_type}
use Rattle.go_operand_core.proofs.laws.own_type.Goals as goal

pub returns : goal.returns
returns g c = record { arithmetic = own_type; ordered = ordered_type; equated = equated_type }

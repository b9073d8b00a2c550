use Rattle.std.proofs.Common.{refl}
use Rattle.go_operand_core.proofs.Refusing.{bits_outside, bits_refused, passed, prefix_passed}
use Rattle.go_operand_core.proofs.laws.bits_are_outside.Goals as goal

pub returns : goal.returns
returns g c = record { two = bits_outside; refused_two = bits_refused; passed_two = passed; one = λ rules literal a. refl; refused_one = refl; passed_one = prefix_passed }

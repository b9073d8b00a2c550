use Rattle.go_machine_core.proofs.Bits.{truths_are_bits}
use Rattle.go_machine_core.proofs.laws.truths_are_bits.Goals as goal

pub returns : goal.returns
returns c = truths_are_bits

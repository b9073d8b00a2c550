use Rattle.go_program_laws.proofs.CallsIntegers.{parts_are_read}
use Rattle.go_program_laws.proofs.calls.laws.parts_are_read.Goals as goal

pub returns : goal.returns
returns c = parts_are_read

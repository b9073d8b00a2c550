use Rattle.go_program_laws.proofs.ReferencesNumbers.{have_numbers}
use Rattle.go_program_laws.proofs.references.laws.functions_have_numbers.Goals as goal

pub returns : goal.returns
returns c = have_numbers

use Rattle.go_program_laws.proofs.ReferencesOwn.{own_declared}
use Rattle.go_program_laws.proofs.references.laws.own_functions_are_declared.Goals as goal

pub returns : goal.returns
returns c = own_declared

use Rattle.go_program_laws.proofs.ReferencesOwned.{declared_own}
use Rattle.go_program_laws.proofs.references.laws.declared_functions_are_own.Goals as goal

pub returns : goal.returns
returns c = declared_own c.positions_are_exact.ensures

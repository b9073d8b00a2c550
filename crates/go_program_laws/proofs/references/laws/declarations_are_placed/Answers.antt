use Rattle.go_program_laws.proofs.ReferencesCallees.{are_placed}
use Rattle.go_program_laws.proofs.references.laws.declarations_are_placed.Goals as goal

pub returns : goal.returns
returns c = are_placed

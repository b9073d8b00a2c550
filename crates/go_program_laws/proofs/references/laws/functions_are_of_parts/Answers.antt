use Rattle.go_program_laws.proofs.ReferencesShown.{of_parts}
use Rattle.go_program_laws.proofs.references.laws.functions_are_of_parts.Goals as goal

pub returns : goal.returns
returns c = of_parts

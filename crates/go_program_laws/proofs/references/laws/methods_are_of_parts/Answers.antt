use Rattle.go_program_laws.proofs.ReferencesSelecting.{methods_of_parts}
use Rattle.go_program_laws.proofs.references.laws.methods_are_of_parts.Goals as goal

pub returns : goal.returns
returns c = methods_of_parts c.declared_functions_are_own.ensures c.parts_are_among.ensures c.check_is_local.ensures c.imports_bind_theirs.ensures

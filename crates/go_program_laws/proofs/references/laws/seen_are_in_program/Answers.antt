use Rattle.go_program_laws.proofs.ReferencesReached.{seen_in_program}
use Rattle.go_program_laws.proofs.references.laws.seen_are_in_program.Goals as goal

pub returns : goal.returns
returns c = seen_in_program c.check_is_local.ensures c.imports_bind_theirs.ensures c.references_lead_to_theirs.ensures c.declarations_are_placed.ensures c.parts_of_a_path_are_one.ensures

use Rattle.go_program_laws.proofs.ReferencesReached.{reached_in_program}
use Rattle.go_program_laws.proofs.references.laws.reached_are_in_program.Goals as goal

pub returns : goal.returns
returns c =
    reached_in_program c.check_is_local.ensures c.imports_bind_theirs.ensures c.references_lead_to_theirs.ensures c.declarations_are_placed.ensures c.parts_of_a_path_are_one.ensures c.parts_are_among.ensures c.functions_have_one_table.ensures c.functions_are_placed.ensures

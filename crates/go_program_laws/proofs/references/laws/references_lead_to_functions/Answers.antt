use Rattle.go_program_laws.proofs.ReferencesCallees.{lead_to_functions}
use Rattle.go_program_laws.proofs.references.laws.references_lead_to_functions.Goals as goal

pub returns : goal.returns
returns c = lead_to_functions c.declarations_are_placed.ensures c.references_lead_to_theirs.ensures c.parts_are_among.ensures c.functions_have_one_table.ensures c.functions_are_placed.ensures

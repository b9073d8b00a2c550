use Rattle.go_program_laws.proofs.ReferencesCallees.{reached_take}
use Rattle.go_program_laws.proofs.references.laws.reached_take_words.Goals as goal

pub returns : goal.returns
returns c = reached_take c.references_lead_to_functions.ensures c.functions_take_words.ensures c.reached_are_inside.ensures c.parts_show_their_types.ensures

use Rattle.go_program_laws.proofs.ReferencesJoined.{own_references}
use Rattle.go_program_laws.proofs.references.laws.own_references_take_words.Goals as goal

pub returns : goal.returns
returns c = own_references c.parts_of_a_path_are_one.ensures c.references_lead_to_functions.ensures c.own_callees_take_words.ensures

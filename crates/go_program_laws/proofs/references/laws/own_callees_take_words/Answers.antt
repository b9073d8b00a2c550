use Rattle.go_program_laws.proofs.ReferencesCallers.{own_callees}
use Rattle.go_program_laws.proofs.references.laws.own_callees_take_words.Goals as goal

pub returns : goal.returns
returns c = own_callees c.parts_are_among.ensures c.functions_take_words.ensures c.reached_are_inside.ensures c.headers_are_of_signatures.ensures c.own_signatures_are_theirs.ensures

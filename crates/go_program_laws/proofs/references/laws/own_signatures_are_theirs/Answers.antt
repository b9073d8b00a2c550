use Rattle.go_program_laws.proofs.ReferencesCallers.{own_signatures}
use Rattle.go_program_laws.proofs.references.laws.own_signatures_are_theirs.Goals as goal

pub returns : goal.returns
returns c = own_signatures c.positions_are_exact.ensures

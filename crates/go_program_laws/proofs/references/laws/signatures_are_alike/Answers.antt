use Rattle.go_program_laws.proofs.ReferencesMoved.{signs_alike}
use Rattle.go_program_laws.proofs.references.laws.signatures_are_alike.Goals as goal

pub returns : goal.returns
returns c = signs_alike c.check_is_local.ensures c.imports_bind_theirs.ensures

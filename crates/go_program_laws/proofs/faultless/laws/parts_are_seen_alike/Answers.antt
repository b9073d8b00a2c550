use Rattle.go_program_laws.proofs.FaultlessAlike.{parts_alike}
use Rattle.go_program_laws.proofs.faultless.laws.parts_are_seen_alike.Goals as goal

pub returns : goal.returns
returns c = parts_alike c.check_is_local.ensures c.imports_bind_theirs.ensures

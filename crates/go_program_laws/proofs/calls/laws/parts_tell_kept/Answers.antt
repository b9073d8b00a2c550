use Rattle.go_program_laws.proofs.CallsTold.{parts_tell_kept}
use Rattle.go_program_laws.proofs.calls.laws.parts_tell_kept.Goals as goal

pub returns : goal.returns
returns c = parts_tell_kept c.check_is_local.ensures c.imports_bind_theirs.ensures c.declarations_keep_types.ensures

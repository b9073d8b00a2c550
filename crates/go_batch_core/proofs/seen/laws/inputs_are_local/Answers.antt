use Rattle.go_batch_core.proofs.SeenLocals.{inputs_local}
use Rattle.go_batch_core.proofs.seen.laws.inputs_are_local.Goals as goal

pub returns : goal.returns
returns c = inputs_local c.check_is_local.ensures c.imports_bind_theirs.ensures

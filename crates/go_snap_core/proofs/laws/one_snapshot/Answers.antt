use Rattle.go_snap_core.proofs.OneSnapshot.{one_snapshot}
use Rattle.go_snap_core.proofs.laws.one_snapshot.Goals as goal

pub returns : goal.returns
returns c = one_snapshot c.check_is_local.ensures c.imports_bind_theirs.ensures c.one_part.ensures

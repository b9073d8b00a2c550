use Rattle.go_snap_core.proofs.WholeWorkspaceOneWhole.{one_whole}
use Rattle.go_snap_core.proofs.whole_workspace.whole.one_whole.Goals as goal

pub returns : goal.returns
returns c = one_whole c.check_is_local.ensures c.imports_bind_theirs.ensures

use Rattle.go_snap_core.proofs.WholeWorkspacePartsWhole.{parts_are_whole}
use Rattle.go_snap_core.proofs.whole_workspace.whole.parts_are_whole.Goals as goal

pub returns : goal.returns
returns c = parts_are_whole c.check_is_local.ensures c.imports_bind_theirs.ensures

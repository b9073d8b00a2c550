use Rattle.go_snap_core.proofs.WholeWorkspaceBinding.{bind_theirs}
use Rattle.go_snap_core.proofs.whole_workspace.local.imports_bind_theirs.Goals as goal

pub returns : goal.returns
returns c = bind_theirs

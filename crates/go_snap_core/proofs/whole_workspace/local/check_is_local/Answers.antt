use Rattle.go_snap_core.proofs.WholeWorkspaceMeanings.{check_local}
use Rattle.go_snap_core.proofs.whole_workspace.local.check_is_local.Goals as goal

pub returns : goal.returns
returns c = check_local

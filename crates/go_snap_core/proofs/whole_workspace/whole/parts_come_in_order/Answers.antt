use Rattle.go_snap_core.proofs.WholeWorkspaceStaying.{parts_come_in_order}
use Rattle.go_snap_core.proofs.whole_workspace.whole.parts_come_in_order.Goals as goal

pub returns : goal.returns
returns c = parts_come_in_order

use Rattle.go_snap_core.proofs.WholeWorkspaceStaying.{inputs_stay}
use Rattle.go_snap_core.proofs.whole_workspace.whole.inputs_stay.Goals as goal

pub returns : goal.returns
returns c = inputs_stay

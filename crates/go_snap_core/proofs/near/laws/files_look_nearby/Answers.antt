use Rattle.go_snap_core.proofs.NearFiles.{files_nearby}
use Rattle.go_snap_core.proofs.near.laws.files_look_nearby.Goals as goal

pub returns : goal.returns
returns c = files_nearby

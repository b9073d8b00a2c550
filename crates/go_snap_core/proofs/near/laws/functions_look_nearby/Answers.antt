use Rattle.go_snap_core.proofs.NearFiles.{functions_nearby}
use Rattle.go_snap_core.proofs.near.laws.functions_look_nearby.Goals as goal

pub returns : goal.returns
returns c = functions_nearby

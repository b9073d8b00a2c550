use Rattle.go_snap_core.proofs.NearSeeing.{scenes_nearby}
use Rattle.go_snap_core.proofs.near.laws.scenes_look_nearby.Goals as goal

pub returns : goal.returns
returns c = scenes_nearby

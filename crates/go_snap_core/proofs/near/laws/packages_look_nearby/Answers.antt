use Rattle.go_snap_core.proofs.NearPackages.{packages_nearby}
use Rattle.go_snap_core.proofs.near.laws.packages_look_nearby.Goals as goal

pub returns : goal.returns
returns c = packages_nearby

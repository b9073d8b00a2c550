use Rattle.go_snap_core.proofs.NearSeeing.{tables_nearby}
use Rattle.go_snap_core.proofs.near.laws.tables_look_nearby.Goals as goal

pub returns : goal.returns
returns c = tables_nearby

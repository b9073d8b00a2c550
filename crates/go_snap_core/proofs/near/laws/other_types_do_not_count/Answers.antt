use Rattle.go_snap_core.proofs.NearFiles.{other_types}
use Rattle.go_snap_core.proofs.near.laws.other_types_do_not_count.Goals as goal

pub returns : goal.returns
returns c = other_types

use Rattle.go_snap_core.proofs.NearExpressions.{nearby}
use Rattle.go_snap_core.specs.near.Tables.{near_by, IsNear, near_rest}
use Rattle.go_snap_core.proofs.near.laws.expressions_look_nearby.Goals as goal

pub returns : goal.returns
returns c near looks others p e law agree = nearby (IsNear (near_by near)) (near_rest (near_by near)) looks others law agree p e

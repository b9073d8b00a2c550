use Rattle.go_cursor_core.proofs.Deciding.{spots_decide}
use Rattle.go_cursor_core.proofs.laws.spots_decide.Goals as goal

pub returns : goal.returns
returns g c = spots_decide _ _ _ _

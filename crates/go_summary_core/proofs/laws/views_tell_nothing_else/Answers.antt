use Rattle.go_summary_core.proofs.Telling.{nothing_else}
use Rattle.go_summary_core.proofs.laws.views_tell_nothing_else.Goals as goal

pub returns : goal.returns
returns _ = nothing_else

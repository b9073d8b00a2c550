use Rattle.go_summary_core.proofs.Telling.{views_tell}
use Rattle.go_summary_core.proofs.laws.views_tell_what_summaries_do.Goals as goal

pub returns : goal.returns
returns _ = views_tell

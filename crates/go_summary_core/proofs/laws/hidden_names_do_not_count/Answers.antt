use Rattle.go_summary_core.proofs.Telling.{hidden_do_not_count}
use Rattle.go_summary_core.proofs.laws.hidden_names_do_not_count.Goals as goal

pub returns : goal.returns
returns _ = hidden_do_not_count

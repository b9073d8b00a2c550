use Rattle.go_summary_core.proofs.Telling.{hidden_known}
use Rattle.go_summary_core.proofs.laws.hidden_names_are_known.Goals as goal

pub returns : goal.returns
returns _ = hidden_known

use Rattle.go_table_core.proofs.ByRule.{adding}
use Rattle.go_table_core.proofs.laws.adding_keeps.Goals as goal

pub returns : goal.returns
returns c = adding

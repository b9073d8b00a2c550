use Rattle.go_local_core.proofs.Tables.{one_table}
use Rattle.go_local_core.proofs.laws.one_table.Goals as goal

pub returns : goal.returns
returns g c = one_table _ _

use Rattle.go_digraph_core.proofs.NeedsNeeded.{one_table}
use Rattle.go_digraph_core.proofs.needs.laws.one_table.Goals as goal

pub returns : goal.returns
returns g c = one_table _

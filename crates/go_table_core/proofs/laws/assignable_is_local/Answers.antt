use Rattle.go_table_core.proofs.Meanings.{assignable_local}
use Rattle.go_table_core.proofs.laws.assignable_is_local.Goals as goal

pub returns : goal.returns
returns c = assignable_local

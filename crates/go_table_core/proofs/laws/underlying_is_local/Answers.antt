use Rattle.go_table_core.proofs.Meanings.{underlying_local}
use Rattle.go_table_core.proofs.laws.underlying_is_local.Goals as goal

pub returns : goal.returns
returns c = underlying_local

use Rattle.go_inline_core.proofs.Tellings.{any_table_tells}
use Rattle.go_inline_core.proofs.laws.any_table_tells.Goals as goal

pub returns : goal.returns
returns g c = any_table_tells

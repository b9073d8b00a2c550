use Rattle.go_select_core.proofs.Local.{local}
use Rattle.go_select_core.proofs.laws.selection_is_local.Goals as goal

pub returns : goal.returns
returns c = local

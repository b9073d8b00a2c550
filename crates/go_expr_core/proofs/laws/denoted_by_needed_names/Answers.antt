use Rattle.go_expr_core.proofs.Alike.{needed_names}
use Rattle.go_expr_core.proofs.laws.denoted_by_needed_names.Goals as goal

pub returns : goal.returns
returns g c = needed_names _ _ _ _

use Rattle.go_expr_core.proofs.Alike.{expressions_local}
use Rattle.go_expr_core.proofs.laws.expressions_are_local.Goals as goal

pub returns : goal.returns
returns g c = expressions_local _ _ _ _

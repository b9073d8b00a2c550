use Rattle.go_expr_core.proofs.Alike.{expressions_seen}
use Rattle.go_expr_core.proofs.laws.expressions_are_seen_alike.Goals as goal

pub returns : goal.returns
returns g c = expressions_seen _ _ _ _

use Rattle.go_expr_core.proofs.Independence.{own_name}
use Rattle.go_expr_core.proofs.laws.own_name_decides.Goals as goal

pub returns : goal.returns
returns g c = own_name _ _ _ _

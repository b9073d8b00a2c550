use Rattle.go_tree_nodes.proofs.Naming.{unnamed}
use Rattle.go_tree_nodes.proofs.exprs.Expr.into_name.Goals as goal

pub returns-in_default : goal.returns-in_default
returns-in_default c = unnamed c.args.self c.in_default.not-Name

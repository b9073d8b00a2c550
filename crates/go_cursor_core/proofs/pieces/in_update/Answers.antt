use Rattle.std.proofs.Common.{refl}
use Rattle.go_cursor_core.proofs.Finding.{front, behind}
use Rattle.go_cursor_core.proofs.pieces.in_update.Goals as goal

pub returns-in-None : goal.returns-in-None
returns-in-None c = behind c.args.start c.in_expr.result c.in_expr-in-None.result _ _ _ refl c.in_expr.ensures c.in-None.is c.in_expr-in-None.ensures

pub returns-in_default : goal.returns-in_default
returns-in_default c = front c.args.start c.in_expr.result _ _ _ refl c.in_expr.ensures c.in_default.not-None

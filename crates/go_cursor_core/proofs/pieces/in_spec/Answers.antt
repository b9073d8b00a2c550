use Rattle.std.proofs.Common.{refl}
use Rattle.go_cursor_core.proofs.Finding.{front, behind}
use Rattle.go_cursor_core.proofs.pieces.in_spec.Goals as goal

pub returns-in-None : goal.returns-in-None
returns-in-None c = behind c.args.start c.in_some_type.result c.in_values.result _ _ _ refl c.in_some_type.ensures c.in-None.is c.in_values.ensures

pub returns-in_default : goal.returns-in_default
returns-in_default c = front c.args.start c.in_some_type.result _ _ _ refl c.in_some_type.ensures c.in_default.not-None

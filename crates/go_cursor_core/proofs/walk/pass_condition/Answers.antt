use Rattle.std.proofs.Common.{not, refl, ap, ◌∙◌}
use Rattle.go_cursor_core.proofs.States.{checked}
use Rattle.go_cursor_core.proofs.walk.pass_condition.Goals as goal

pub returns-then-is_none : goal.returns-then-is_none
returns-then-is_none c = checked _ _ _ (c.is_none.ensures ∙ ap not c.if-is_none.true) c.in_expr-search.ensures refl refl refl

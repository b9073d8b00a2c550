use Rattle.std.proofs.Common.{not, refl, ap, ◌∙◌}
use Rattle.go_cursor_core.proofs.States.{found_here, declared_here}
use Rattle.go_cursor_core.proofs.walk.pass_spec.Goals as goal

pub returns-then-is_none-2 : goal.returns-then-is_none-2
returns-then-is_none-2 c =
    declared_here _ _ _ _ _ _ _ (c.is_none.ensures ∙ ap not c.if-is_none.true) c.in_spec-search.ensures (c.is_none-then-is_none.ensures ∙ ap not c.if-is_none-2.true) refl refl refl c.declare_idents.ensures

pub returns-else-is_none-2 : goal.returns-else-is_none-2
returns-else-is_none-2 c =
    found_here _ _ _ _ _ _ (c.is_none.ensures ∙ ap not c.if-is_none.true) c.in_spec-search.ensures (c.is_none-then-is_none.ensures ∙ ap not c.if-is_none-2.false) refl refl refl

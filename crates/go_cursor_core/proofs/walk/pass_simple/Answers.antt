use Rattle.std.proofs.Common.{not, refl, ap, ◌∙◌}
use Rattle.go_tree_nodes.specs.declared.stmts.«Simple».TheVariants as simple
use Rattle.go_tree_nodes.specs.declared.stmts.Definition.{Definition}
use Rattle.go_tree_nodes.specs.Shapes.{shape_simple}
use Rattle.go_tree_nodes.specs.TypeShapes.{shape_idents}
use Rattle.go_tree_nodes.specs.Spelling.{spell_simple}
use Rattle.go_expr_core.specs.local_core.Steps.{Act, OneNew}
use Rattle.go_expr_core.specs.local_core.Outline.{idents, end_of, simple_steps}
use Rattle.go_cursor_core.specs.Used.{first_used, simple_used}
use Rattle.go_cursor_core.proofs.States.{same, declared_here, declares_same, simple_passed, simple_found}
use Rattle.go_cursor_core.proofs.walk.pass_simple.Goals as goal

pub returns-in-Define : goal.returns-in-Define
returns-in-Define c =
    let d = c.in-Define.definition in
    same _ _ _ _ (ap (λ s. λ rest. simple_steps (shape_simple s) rest) c.in-Define.is)
    (declared_here _ _ _ OneNew (end_of (spell_simple (shape_simple (simple.Define d)))) (Act (shape_simple (simple.Define d))) (idents (shape_idents d.value.names)) (c.is_none.ensures ∙ ap not c.if-is_none.true)
    (c.in_simple-search.ensures ∙ ap (λ s. first_used c.args.search.now.start (simple_used (shape_simple s))) c.in-Define.is) (c.is_none-then-is_none.ensures ∙ ap not c.if-is_none-2.true) refl refl refl
    (declares_same _ _ _ _ (ap (λ (x : Definition). idents (shape_idents x.names)) c.deref.ensures) c.declare_idents.ensures))

pub returns-in_default : goal.returns-in_default
returns-in_default c = simple_passed _ _ c.args.simple.now c.in_default.not-Define (c.is_none.ensures ∙ ap not c.if-is_none.true) c.in_simple-search.ensures refl refl refl

pub returns-else-is_none-2 : goal.returns-else-is_none-2
returns-else-is_none-2 c = simple_found _ _ c.args.simple.now (c.is_none.ensures ∙ ap not c.if-is_none.true) c.in_simple-search.ensures (c.is_none-then-is_none.ensures ∙ ap not c.if-is_none-2.false) refl refl refl

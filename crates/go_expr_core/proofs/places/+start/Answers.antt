use Rattle.std.proofs.Common.{ap, sym, ◌∙◌}
use Rattle.go_tree_nodes.specs.declared.exprs.CallExpr.{out-CallExpr}
use Rattle.go_tree_nodes.specs.declared.exprs.LiteralExpr.{out-LiteralExpr}
use Rattle.go_tree_nodes.specs.declared.exprs.StructLiteralExpr.{out-StructLiteralExpr}
use Rattle.go_tree_nodes.specs.Shapes.{shape}
use Rattle.go_tree_nodes.specs.Starts.{type_name_start, type_start}
use Rattle.go_tree_nodes.specs.TypeShapes.{shape_type}
use Rattle.go_expr_core.specs.Places as places
use Rattle.go_tree_nodes.proofs.ShapeLemmas.{call_form, literal_form, struct_form}
use Rattle.go_expr_core.proofs.places.+start.Goals as goal

pub returns-in-Call : goal.returns-in-Call
returns-in-Call t c =
    c.start-in-Call.ensures ∙ (ap (λ x. places.start (shape (out-CallExpr x).callee)) c.deref-in-Call.ensures ∙ sym (ap places.start (call_form c.args.expr.now c.in-Call.call c.in-Call.is)))

pub returns-in-Literal : goal.returns-in-Literal
returns-in-Literal t c =
    c.type_name_start.ensures ∙ (ap (λ x. type_name_start (out-LiteralExpr x).type_name) c.deref-in-Literal.ensures ∙ sym (ap places.start (literal_form c.args.expr.now c.in-Literal.literal c.in-Literal.is)))

pub returns-in-StructLiteral : goal.returns-in-StructLiteral
returns-in-StructLiteral t c =
    c.type_start.ensures ∙ (ap (λ x. type_start (shape_type (out-StructLiteralExpr x).type_expr)) c.deref-in-StructLiteral.ensures ∙ sym (ap places.start (struct_form c.args.expr.now c.in-StructLiteral.literal c.in-StructLiteral.is)))

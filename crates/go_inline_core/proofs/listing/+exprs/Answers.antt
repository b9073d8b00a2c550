use Rattle.std.proofs.Common.{[], ◌∷◌}
use Rattle.go_tree_nodes.specs.declared.exprs.CallExpr.{out-CallExpr}
use Rattle.go_tree_nodes.specs.declared.exprs.LiteralExpr.{out-LiteralExpr}
use Rattle.go_tree_nodes.specs.declared.exprs.StructLiteralExpr.{out-StructLiteralExpr}
use Rattle.go_tree_nodes.specs.TypeShapes.{shape_type}
use Rattle.go_tree_nodes.specs.Shapes.{shape, items_of}
use Rattle.go_tree_nodes.specs.WrittenTypes.{expr_types, items_types}
use Rattle.go_inline_core.proofs.ListLemmas.{adds_same, adds_at, adds_both, adds_step, adds_whole}
use Rattle.go_inline_core.proofs.WalkLemmas.{item_types, items_types_list, call_has, literal_has, struct_literal_has}
use Rattle.go_inline_core.proofs.listing.+exprs.Goals as goal

pub list_items-loop-item-preserved : goal.list_items-loop-item-preserved
list_items-loop-item-preserved t c = adds_step item_types [] c.deref-item-items.result.now c.loop-item.item-index c.item-item.result _ _ _ c.loop-item-test.true c.item-item.is c.loop-item.invariant c.list_expr.ensures

pub list_items-returns : goal.list_items-returns
list_items-returns t c = adds_whole item_types [] c.deref-item-items.result.now c.args.items.now.items c.loop-item.item-index _ _ _ c.deref-item-items.ensures.value c.loop-item-test.false (items_types_list c.args.items.now.items) c.loop-item.invariant

pub list_expr-returns-in-Call : goal.list_expr-returns-in-Call
list_expr-returns-in-Call t c =
    let w = c.in-Call in
    adds_both _ _ _ _ _ _ (call_has c.args.expr.now w.call w.is)
    (adds_at (λ x. expr_types (shape (out-CallExpr x).callee)) _ _ _ _ c.deref-in-Call.ensures c.list_expr-in-Call.ensures)
    (adds_at (λ x. items_types (items_of (out-CallExpr x).args.items)) _ _ _ _ c.deref-in-Call-2.ensures c.list_items.ensures)

pub list_expr-returns-in-Literal : goal.list_expr-returns-in-Literal
list_expr-returns-in-Literal t c =
    let w = c.in-Literal in
    adds_same _ _ _ _ (literal_has c.args.expr.now w.literal w.is) (adds_at (λ x. items_types (items_of (out-LiteralExpr x).elements.items)) _ _ _ _ c.deref-in-Literal.ensures c.list_items-in-Literal.ensures)

pub list_expr-returns-in-StructLiteral : goal.list_expr-returns-in-StructLiteral
list_expr-returns-in-StructLiteral t c =
    let w = c.in-StructLiteral in
    adds_both _ _ _ _ _ _ (struct_literal_has c.args.expr.now w.literal w.is)
    (adds_at (λ x. shape_type (out-StructLiteralExpr x).type_expr ∷ []) _ _ _ _ c.deref-in-StructLiteral.ensures c.list_type.ensures)
    (adds_at (λ x. items_types (items_of (out-StructLiteralExpr x).elements.items)) _ _ _ _ c.deref-in-StructLiteral-2.ensures c.list_items-in-StructLiteral.ensures)

use Rattle.std.proofs.Common.{[], ◌∷◌, refl, ap}
use Rattle.go_tree_core.specs.declared.occurrence.Context.TheVariants as context
use Rattle.go_tree_core.specs.declared.occurrence.Role.TheVariants as role
use Rattle.go_tree_nodes.specs.declared.exprs.CallExpr.{out-CallExpr}
use Rattle.go_tree_nodes.specs.declared.exprs.LiteralExpr.{out-LiteralExpr}
use Rattle.go_tree_nodes.specs.declared.exprs.StructLiteralExpr.{out-StructLiteralExpr}
use Rattle.go_tree_nodes.specs.TypeShapes.{shape_type}
use Rattle.go_tree_nodes.specs.Shapes.{shape, items_of}
use Rattle.go_tree_core.specs.Occurrences.{call_at, occurrence, type_name_occs, type_occs, expr_occs, items_occs}
use Rattle.go_tree_core.proofs.OccLemmas.{item_occs, items_occs_list, call_has, literal_has, struct_literal_has}
use Rattle.go_tree_core.proofs.Visits.{sees_same, sees_at, sees_both, sees_step, sees_whole}
use Rattle.go_tree_core.proofs.expr_occurrences.+visit.Goals as goal

pub visit_items-loop-item-preserved : goal.visit_items-loop-item-preserved
visit_items-loop-item-preserved g t c = sees_step g.V.Visitor.Sees item_occs g.met.V.Visitor.sees_more [] c.deref-item-items.result.now c.loop-item.item-index c.item-item.result _ _ _ c.loop-item-test.true c.item-item.is c.loop-item.invariant (g.met.V.Visitor.sees_more _ _ _ _ _ c.visit_key.ensures c.visit_expr.ensures)

pub visit_items-returns : goal.visit_items-returns
visit_items-returns g t c = sees_whole g.V.Visitor.Sees item_occs [] c.deref-item-items.result.now c.args.items.now.items c.loop-item.item-index _ _ _ c.deref-item-items.ensures.value c.loop-item-test.false (items_occs_list c.args.items.now.items) c.loop-item.invariant

pub visit_expr-returns-in-Call : goal.visit_expr-returns-in-Call
visit_expr-returns-in-Call g t c =
    let seen = g.V.Visitor.Sees in
    let more = g.met.V.Visitor.sees_more in
    let w = c.in-Call in
    let o = out-CallExpr w.call.value in
    let behind = call_at o.«open» ∷ items_occs (items_of o.args.items) in
    let middle = c.visit_expr-in-Call.new.visitor in
    let last = c.visit_items.new.visitor in
    sees_both seen more c.args.visitor.now middle last (expr_occs context.Callee (shape o.callee)) behind _ (call_has c.args.context c.args.expr.now w.call w.is)
    (sees_at seen (λ x. expr_occs context.Callee (shape (out-CallExpr x).callee)) _ _ _ _ c.deref-in-Call.ensures c.visit_expr-in-Call.ensures)
    (sees_both seen more middle c.visit_call.new.visitor last (call_at o.«open» ∷ []) (items_occs (items_of o.args.items)) behind refl
    (sees_at seen (λ x. call_at (out-CallExpr x).«open» ∷ []) _ _ _ _ c.deref-in-Call-2.ensures c.visit_call.ensures)
    (sees_at seen (λ x. items_occs (items_of (out-CallExpr x).args.items)) _ _ _ _ c.deref-in-Call-3.ensures c.visit_items.ensures))

pub visit_expr-returns-in-Literal : goal.visit_expr-returns-in-Literal
visit_expr-returns-in-Literal g t c =
    let seen = g.V.Visitor.Sees in
    let w = c.in-Literal in
    sees_both seen g.met.V.Visitor.sees_more _ _ _ _ _ _ (literal_has c.args.context c.args.expr.now w.literal w.is)
    (sees_at seen (λ x. type_name_occs (out-LiteralExpr x).type_name) _ _ _ _ c.deref-in-Literal.ensures c.visit_type_name.ensures)
    (sees_at seen (λ x. items_occs (items_of (out-LiteralExpr x).elements.items)) _ _ _ _ c.deref-in-Literal-2.ensures c.visit_items-in-Literal.ensures)

pub visit_expr-returns-in-StructLiteral : goal.visit_expr-returns-in-StructLiteral
visit_expr-returns-in-StructLiteral g t c =
    let seen = g.V.Visitor.Sees in
    let w = c.in-StructLiteral in
    sees_both seen g.met.V.Visitor.sees_more _ _ _ _ _ _ (struct_literal_has c.args.context c.args.expr.now w.literal w.is)
    (sees_at seen (λ x. type_occs (shape_type (out-StructLiteralExpr x).type_expr)) _ _ _ _ c.deref-in-StructLiteral.ensures c.visit_type.ensures)
    (sees_at seen (λ x. items_occs (items_of (out-StructLiteralExpr x).elements.items)) _ _ _ _ c.deref-in-StructLiteral-2.ensures c.visit_items-in-StructLiteral.ensures)

pub visit_expr-returns-in-Integer : goal.visit_expr-returns-in-Integer
visit_expr-returns-in-Integer g t c = sees_same g.V.Visitor.Sees _ _ _ _ (ap (λ e. expr_occs c.args.context (shape e)) c.in-Integer.is) (g.met.V.Visitor.sees_none _)

pub visit_expr-returns-in-Text : goal.visit_expr-returns-in-Text
visit_expr-returns-in-Text g t c = sees_same g.V.Visitor.Sees _ _ _ _ (ap (λ e. expr_occs c.args.context (shape e)) c.in-Text.is) (g.met.V.Visitor.sees_none _)

pub visit_expr-returns-in-Name : goal.visit_expr-returns-in-Name
visit_expr-returns-in-Name g t c = sees_same g.V.Visitor.Sees _ _ _ _ (ap (λ e. expr_occs c.args.context (shape e)) c.in-Name.is) c.visit_named.ensures

pub visit_expr-returns-in-Binary : goal.visit_expr-returns-in-Binary
visit_expr-returns-in-Binary g t c =
    let seen = g.V.Visitor.Sees in
    sees_both seen g.met.V.Visitor.sees_more _ _ _ _ _ _ (ap (λ e. expr_occs c.args.context (shape e)) c.in-Binary.is)
    (sees_at seen (λ x. expr_occs context.«Value» (shape x.left)) _ _ _ _ c.deref-in-Binary.ensures c.visit_expr-in-Binary.ensures)
    (sees_at seen (λ x. expr_occs context.«Value» (shape x.right)) _ _ _ _ c.deref-in-Binary-2.ensures c.visit_expr-in-Binary-2.ensures)

pub visit_expr-returns-in-Select : goal.visit_expr-returns-in-Select
visit_expr-returns-in-Select g t c =
    let seen = g.V.Visitor.Sees in
    sees_both seen g.met.V.Visitor.sees_more _ _ _ _ _ _ (ap (λ e. expr_occs c.args.context (shape e)) c.in-Select.is)
    (sees_at seen (λ x. expr_occs context.BeforeDot (shape x.operand)) _ _ _ _ c.deref-in-Select.ensures c.visit_expr-in-Select.ensures)
    (sees_at seen (λ u. occurrence (role.Selector u) c.in-Select.select.value.name ∷ []) _ _ _ _ c.whole.ensures
    (sees_at seen (λ x. occurrence (role.Selector c.whole.result) x.name ∷ []) _ _ _ _ c.deref-in-Select-2.ensures c.visit_ident.ensures))

pub visit_expr-returns-in-Paren : goal.visit_expr-returns-in-Paren
visit_expr-returns-in-Paren g t c =
    let seen = g.V.Visitor.Sees in
    sees_same seen _ _ _ _ (ap (λ e. expr_occs c.args.context (shape e)) c.in-Paren.is)
    (sees_at seen (λ p. expr_occs p (shape c.in-Paren.inner.value)) _ _ _ _ c.inside.ensures
    (sees_at seen (λ e. expr_occs c.inside.result (shape e)) _ _ _ _ c.deref.ensures c.visit_expr.ensures))

pub visit_expr-returns-in-Unary : goal.visit_expr-returns-in-Unary
visit_expr-returns-in-Unary g t c =
    let seen = g.V.Visitor.Sees in
    sees_same seen _ _ _ _ (ap (λ e. expr_occs c.args.context (shape e)) c.in-Unary.is)
    (sees_at seen (λ p. expr_occs p (shape c.in-Unary.inner.value)) _ _ _ _ c.under.ensures
    (sees_at seen (λ e. expr_occs c.under.result (shape e)) _ _ _ _ c.deref-in-Unary.ensures c.visit_expr-in-Unary.ensures))

use Rattle.std.proofs.Common.{ap, sym, ◌∙◌}
use Rattle.go_tree_nodes.specs.declared.exprs.CallExpr.{out-CallExpr}
use Rattle.go_tree_nodes.specs.declared.exprs.LiteralExpr.{out-LiteralExpr}
use Rattle.go_tree_nodes.specs.declared.exprs.StructLiteralExpr.{out-StructLiteralExpr}
use Rattle.go_tree_nodes.specs.Trees.{Text, Named, Paren, Unary, Call, Literal, StructLiteral, NoItems, Item}
use Rattle.go_tree_nodes.specs.TypeShapes.{shape_type}
use Rattle.go_tree_nodes.specs.Shapes.{shape_key, shape, shape_call, shape_literal, shape_struct_literal, items_of}
use Rattle.go_tree_core.specs.copies.Respelled.{spelled, some_with, type_name_with, type_with, key_with, expr_with, items_with}
use Rattle.go_tree_core.proofs.CopiesSameTrees.{one_copied, all_copied, item_tree, same_items, of_made, of_boxed}
use Rattle.go_tree_nodes.proofs.ShapeLemmas.{shape_called, call_parts, shape_literal_made, literal_parts, shape_struct_literal_made, struct_literal_parts}
use Rattle.go_tree_core.proofs.copies.copies.+exprs.Goals as goal

pub copy_items-loop-item-preserved : goal.copy_items-loop-item-preserved
copy_items-loop-item-preserved t c =
    let x = c.item-item.result in
    let key = of_made _ _ _ c.in-Ok.ensures.0 c.copy_key.ensures in
    let value = of_made _ _ _ c.in-Ok.ensures.1 c.copy_expr.ensures in
    let same = ap (λ k. Item k (shape c.in-Ok.copy.1) x.comma NoItems) key ∙ ap (λ e. Item (some_with (key_with (spelled c.args.copier.now)) (shape_key x.key)) e x.comma NoItems) value in
    one_copied (items_with (spelled c.args.copier.now)) item_tree _ _ _ _ _ _ c.loop-item-test.true c.item-item.is c.in-Ok-add.ensures same c.loop-item.invariant

pub copy_items-returns : goal.copy_items-returns
copy_items-returns t c = same_items (spelled c.args.copier.now) _ _ (all_copied (items_with (spelled c.args.copier.now)) item_tree _ _ _ _ c.deref-item-items.ensures.value c.loop-item-test.false c.loop-item.invariant)

pub copy_expr-returns-in-Ok : goal.copy_expr-returns-in-Ok
copy_expr-returns-in-Ok t c = ap Text c.in-Ok.ensures ∙ sym (ap (λ e. expr_with (spelled c.args.copier.now) (shape e)) c.in-Text.is)

pub copy_expr-returns-in-Ok-copy_ident : goal.copy_expr-returns-in-Ok-copy_ident
copy_expr-returns-in-Ok-copy_ident t c = ap Named c.in-Ok-copy_ident.ensures ∙ sym (ap (λ e. expr_with (spelled c.args.copier.now) (shape e)) c.in-Name.is)

pub copy_expr-returns-in-Ok-copy_boxed : goal.copy_expr-returns-in-Ok-copy_boxed
copy_expr-returns-in-Ok-copy_boxed t c =
    let w = c.in-Paren in
    ap (λ e. Paren w.«open» e w.close) c.in-Ok-copy_boxed.ensures ∙ sym (ap (λ e. expr_with (spelled c.args.copier.now) (shape e)) w.is)

pub copy_expr-returns-in-Ok-copy_boxed-2 : goal.copy_expr-returns-in-Ok-copy_boxed-2
copy_expr-returns-in-Ok-copy_boxed-2 t c =
    let w = c.in-Unary in
    ap (Unary w.operator w.span) c.in-Ok-copy_boxed-2.ensures ∙ sym (ap (λ e. expr_with (spelled c.args.copier.now) (shape e)) w.is)

pub copy_call-returns : goal.copy_call-returns
copy_call-returns t c =
    let w = out-CallExpr c.args.call.now in
    let made = c.in-Ok.copy in
    let h = spelled c.args.copier.now in
    let same =
    shape_called made.1 w.«open» made.0 w.close
    ∙ ap (λ t. Call t w.«open» (items_of made.0.items) w.close) (of_made _ _ _ c.in-Ok.ensures.1 c.copy_expr.ensures)
    ∙ ap (λ l. Call (expr_with h (shape w.callee)) w.«open» l w.close) (of_made _ _ _ c.in-Ok.ensures.0 c.copy_items-args.ensures)
    ∙ sym (ap (expr_with h) (call_parts c.args.call.now)) in
    of_boxed shape_call _ _ _ c.boxed.ensures same

pub copy_literal-returns : goal.copy_literal-returns
copy_literal-returns t c =
    let w = out-LiteralExpr c.args.literal.now in
    let made = c.in-Ok.copy in
    let h = spelled c.args.copier.now in
    let same =
    shape_literal_made made.0 w.«open» made.1 w.close
    ∙ ap (λ n. Literal n w.«open» (items_of made.1.items) w.close) (of_made _ _ _ c.in-Ok.ensures.0 c.copy_type_name-type_name.ensures)
    ∙ ap (λ l. Literal (type_name_with h w.type_name) w.«open» l w.close) (of_made _ _ _ c.in-Ok.ensures.1 c.copy_items.ensures)
    ∙ sym (ap (expr_with h) (literal_parts c.args.literal.now)) in
    of_boxed shape_literal _ _ _ c.boxed.ensures same

pub copy_struct_literal-returns : goal.copy_struct_literal-returns
copy_struct_literal-returns t c =
    let w = out-StructLiteralExpr c.args.literal.now in
    let made = c.in-Ok.copy in
    let h = spelled c.args.copier.now in
    let same =
    shape_struct_literal_made made.0 w.«open» made.1 w.close
    ∙ ap (λ t. StructLiteral t w.«open» (items_of made.1.items) w.close) (of_made _ _ _ c.in-Ok.ensures.0 c.copy_type-type_expr.ensures)
    ∙ ap (λ l. StructLiteral (type_with h (shape_type w.type_expr)) w.«open» l w.close) (of_made _ _ _ c.in-Ok.ensures.1 c.copy_items.ensures)
    ∙ sym (ap (expr_with h) (struct_literal_parts c.args.literal.now)) in
    of_boxed shape_struct_literal _ _ _ c.boxed.ensures same

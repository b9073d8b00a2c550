use Rattle.std.proofs.Common.{ap, sym, ◌∙◌, map}
use Rattle.go_tree_nodes.specs.declared.exprs.CallExpr.{out-CallExpr}
use Rattle.go_tree_nodes.specs.Shapes.{shape, items_of}
use Rattle.go_stmt_core.specs.expr_core.Needed.{needed_idents, needed_by_args}
use Rattle.go_stmt_core.specs.expr_core.Steps.{ok_adds, ok_both}
use Rattle.go_value_core.proofs.Walking.{call_has, literal_has, struct_has}
use Rattle.go_value_core.proofs.idents.+exprs.Goals as goal

pub add_needed-returns-in_ok-add_needed-in-Call : goal.add_needed-returns-in_ok-add_needed-in-Call
add_needed-returns-in_ok-add_needed-in-Call t c =
    ok_both c.add_args.result _ _ _ (needed_idents (shape (out-CallExpr c.deref-in-Call.result.now).callee)) (needed_by_args (items_of (out-CallExpr c.deref-in-Call-2.result.now).args.items)) (needed_idents (shape c.args.expr.now))
    c.in_ok-add_needed-in-Call.ensures (call_has c.args.expr.now c.in-Call.call c.deref-in-Call.result.now c.deref-in-Call-2.result.now c.in-Call.is c.deref-in-Call.ensures c.deref-in-Call-2.ensures) c.add_args.ensures

pub add_needed-returns-in-StructLiteral : goal.add_needed-returns-in-StructLiteral
add_needed-returns-in-StructLiteral t c = ok_adds c.add_type.result _ _ _ _ (struct_has c.args.expr.now c.in-StructLiteral.literal c.deref-in-StructLiteral.result.now c.in-StructLiteral.is c.deref-in-StructLiteral.ensures) c.add_type.ensures

pub add_needed-returns-in-Literal : goal.add_needed-returns-in-Literal
add_needed-returns-in-Literal t c = ok_adds c.add_type_name.result _ _ _ _ (literal_has c.args.expr.now c.in-Literal.literal c.deref-in-Literal.result.now c.in-Literal.is c.deref-in-Literal.ensures) c.add_type_name.ensures

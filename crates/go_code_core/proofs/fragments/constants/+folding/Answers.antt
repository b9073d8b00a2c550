use Rattle.std.proofs.Common.{sym, ap, ◌∙◌}
use Rattle.go_tree_nodes.specs.Shapes.{shape, items_of}
use Rattle.go_tree_nodes.specs.declared.exprs.CallExpr.{out-CallExpr}
use Rattle.go_code_core.specs.fragments.Constants.{converted, folded, folded_one}
use Rattle.go_code_core.specs.fragments.Names.{callee_meaning}
use Rattle.go_tree_nodes.proofs.ShapeLemmas.{call_form, literal_form, struct_form}
use Rattle.go_code_core.proofs.FragmentsLoops.{several}
use Rattle.go_code_core.proofs.fragments.constants.+folding.Goals as goal

pub folded-returns-in_ok-value-in-Call : goal.folded-returns-in_ok-value-in-Call
folded-returns-in_ok-value-in-Call g t c =
    let looks = g.N.CodeNames.looks c.args.frame.now.names.now in
    c.convert.ensures
    ∙ (ap (λ m. converted m c.in_ok-value-in-Call.value) c.called.ensures
    ∙ (ap (λ v. converted (callee_meaning looks (shape (out-CallExpr c.deref-in-Call-2.result.now).callee)) v) c.in_ok-value-in-Call.ensures
    ∙ (ap (λ x. converted (callee_meaning looks (shape (out-CallExpr x).callee)) (folded_one looks (items_of (out-CallExpr c.deref-in-Call.result.now).args.items))) c.deref-in-Call-2.ensures
    ∙ (ap (λ x. converted (callee_meaning looks (shape (out-CallExpr c.in-Call.call.value).callee)) (folded_one looks (items_of (out-CallExpr x).args.items))) c.deref-in-Call.ensures
    ∙ sym (ap (folded looks) (call_form c.args.expr.now c.in-Call.call c.in-Call.is))))))

pub folded-returns-in-Literal : goal.folded-returns-in-Literal
folded-returns-in-Literal g t c = sym (ap (folded (g.N.CodeNames.looks c.args.frame.now.names.now)) (literal_form c.args.expr.now c.in-Literal.field-0 c.in-Literal.is))

pub folded-returns-in-StructLiteral : goal.folded-returns-in-StructLiteral
folded-returns-in-StructLiteral g t c = sym (ap (folded (g.N.CodeNames.looks c.args.frame.now.names.now)) (struct_form c.args.expr.now c.in-StructLiteral.field-0 c.in-StructLiteral.is))

pub folded_one-returns-in_default : goal.folded_one-returns-in_default
folded_one-returns-in_default g t c = several (g.N.CodeNames.looks c.args.frame.now.names.now) c.as_slice.result.now c.args.items.now.items c.as_slice.ensures.value c.in_default.len_at_least

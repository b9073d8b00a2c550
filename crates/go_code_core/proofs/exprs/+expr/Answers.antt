use Rattle.std.proofs.Common.{◌++◌, ◌-◌, sym, ap, ◌∙◌}
use Rattle.std.proofs.lemmas.Result.{on_ok_weaker}
use Rattle.go_tree_nodes.specs.Shapes.{shape, shape_call}
use Rattle.go_code_core.specs.fragments.Names.{frame_of}
use Rattle.go_code_core.specs.Code.{binary_code, expr_code, receiver_code}
use Rattle.go_code_core.specs.mirrors.Written.{applied}
use Rattle.go_tree_nodes.proofs.ShapeLemmas.{call_form, literal_form, struct_form}
use Rattle.go_code_core.proofs.Pieces.{applied_made, call_made, is_pushed, or_made}
use Rattle.go_code_core.proofs.exprs.+expr.Goals as goal

pub expr-returns-in-Literal : goal.expr-returns-in-Literal
expr-returns-in-Literal g t c = sym (ap (λ t. expr_code (frame_of (g.N.CodeNames.looks c.args.frame.now.names.now) c.args.frame.now.slots.now) t ++ c.args.code.now) (literal_form c.args.expr.now c.in-Literal.field-0 c.in-Literal.is))

pub expr-returns-in-StructLiteral : goal.expr-returns-in-StructLiteral
expr-returns-in-StructLiteral g t c = sym (ap (λ t. expr_code (frame_of (g.N.CodeNames.looks c.args.frame.now.names.now) c.args.frame.now.slots.now) t ++ c.args.code.now) (struct_form c.args.expr.now c.in-StructLiteral.field-0 c.in-StructLiteral.is))

pub receiver-returns-in-Call : goal.receiver-returns-in-Call
receiver-returns-in-Call g t c = sym (ap (λ t. receiver_code (frame_of (g.N.CodeNames.looks c.args.frame.now.names.now) c.args.frame.now.slots.now) t ++ c.args.code.now) (call_form c.args.callee.now c.in-Call.field-0 c.in-Call.is))

pub receiver-returns-in-Literal : goal.receiver-returns-in-Literal
receiver-returns-in-Literal g t c = sym (ap (λ t. receiver_code (frame_of (g.N.CodeNames.looks c.args.frame.now.names.now) c.args.frame.now.slots.now) t ++ c.args.code.now) (literal_form c.args.callee.now c.in-Literal.field-0 c.in-Literal.is))

pub receiver-returns-in-StructLiteral : goal.receiver-returns-in-StructLiteral
receiver-returns-in-StructLiteral g t c = sym (ap (λ t. receiver_code (frame_of (g.N.CodeNames.looks c.args.frame.now.names.now) c.args.frame.now.slots.now) t ++ c.args.code.now) (struct_form c.args.callee.now c.in-StructLiteral.field-0 c.in-StructLiteral.is))

pub call_code-returns : goal.call_code-returns
call_code-returns g t c =
    applied_made c.receiver.result (frame_of (g.N.CodeNames.looks c.args.frame.now.names.now) c.args.frame.now.slots.now) c.args.call.now c.called-called.result c.reference-reference.result c.args.code.now c.end_call.new.code c.arguments.new.code c.receiver.new.code
    c.called-called.ensures c.reference-reference.ensures c.in_ok-end_call.ensures c.in_ok-arguments.ensures c.receiver.ensures

pub expr-returns-in-Some-3 : goal.expr-returns-in-Some-3
expr-returns-in-Some-3 g t c =
    is_pushed c.push-in-Some-3.result (frame_of (g.N.CodeNames.looks c.args.frame.now.names.now) c.args.frame.now.slots.now) (shape c.args.expr.now) c.in-Some-3.value c.args.code.now c.push-in-Some-3.new.code (sym c.in-Some-3.is ∙ c.in_ok-value-in-Call.ensures) c.push-in-Some-3.ensures

pub expr-returns-in-None-3 : goal.expr-returns-in-None-3
expr-returns-in-None-3 g t c =
    let f = (frame_of (g.N.CodeNames.looks c.args.frame.now.names.now) c.args.frame.now.slots.now) in
    call_made c.call_code.result f c.args.expr.now c.in-Call.call c.args.code.now c.call_code.new.code c.in-Call.is (sym c.in-None-3.is ∙ c.in_ok-value-in-Call.ensures)
    (on_ok_weaker c.call_code.result (λ e. e ∙ ap (λ x. applied f (shape_call x) ++ c.args.code.now) c.deref-in-None-3.ensures) c.call_code.ensures)

pub operation-returns-in_ok-put-in-LogicalOr-3 : goal.operation-returns-in_ok-put-in-LogicalOr-3
operation-returns-in_ok-put-in-LogicalOr-3 g t c =
    let f = (frame_of (g.N.CodeNames.looks c.args.frame.now.names.now) c.args.frame.now.slots.now) in
    let left = expr_code f (shape c.args.binary.now.left) in
    let right = expr_code f (shape c.args.binary.now.right) in
    on_ok_weaker c.expr-in-LogicalOr-2.result (λ e. e ∙ ap (λ o. binary_code o left right ++ c.args.code.now) (sym c.in-LogicalOr.is))
    (or_made c.expr-in-LogicalOr-2.result left right c.args.code.now c.expr-in-LogicalOr.new.code c.put-in-LogicalOr.new.self c.put-in-LogicalOr-2.new.self c.put-in-LogicalOr-3.new.self c.expr-in-LogicalOr-2.new.code
    c.len-end-in-LogicalOr.result (c.len-in-LogicalOr.result - c.len-end-in-LogicalOr.result) c.len-end-in-LogicalOr.ensures c.in_ok-expr-in-LogicalOr.ensures
    (ap (λ n. n - c.len-end-in-LogicalOr.result) c.len-in-LogicalOr.ensures) c.in_ok-put-in-LogicalOr.ensures.written c.in_ok-put-in-LogicalOr-2.ensures.written c.in_ok-put-in-LogicalOr-3.ensures.written c.expr-in-LogicalOr-2.ensures)

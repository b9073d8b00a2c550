use Rattle.std.proofs.Common.{refl, sym, ap, ◌∙◌}
use Rattle.go_tree_nodes.specs.declared.types.Signature.{out-Signature}
use Rattle.go_tree_nodes.specs.TypeShapes.{shape_type, shape_results}
use Rattle.go_tree_nodes.proofs.TypeShapes.{shape_struct, shape_interface, listed_parts, signature_parts}
use Rattle.go_cursor_core.specs.Used.{first_used, type_used, signature_used, result_used}
use Rattle.go_cursor_core.proofs.Finding.{front, behind, passed, hit}
use Rattle.go_cursor_core.proofs.TreeLists.{lines_used, one_line, lines_first, listed_methods, one_method, methods_first, listed_params, one_param, params_first}
use Rattle.go_cursor_core.proofs.types.+types.Goals as goal

pub in_field_lines-returns-then-is_some : goal.in_field_lines-returns-then-is_some
in_field_lines-returns-then-is_some t c =
    hit c.args.start lines_used one_line (λ n. refl) lines_first c.deref-line-items.result.now c.args.lines.now.items c.loop-line.line-index c.line-item.result c.in_fields-found.result c.deref-line-items.ensures.value c.loop-line-test.true c.line-item.is c.loop-line.invariant c.in_fields-found.ensures (sym c.is_some.ensures ∙ c.if-is_some.true)

pub in_field_lines-loop-line-preserved : goal.in_field_lines-loop-line-preserved
in_field_lines-loop-line-preserved t c =
    passed c.args.start lines_used one_line (λ n. refl) lines_first c.deref-line-items.result.now c.loop-line.line-index c.line-item.result c.in_fields-found.result c.loop-line-test.true c.line-item.is c.loop-line.invariant c.in_fields-found.ensures (sym c.is_some.ensures ∙ c.if-is_some.false)

pub in_methods-returns-then-is_some : goal.in_methods-returns-then-is_some
in_methods-returns-then-is_some t c =
    hit c.args.start listed_methods one_method (λ n. refl) methods_first c.deref-method-items.result.now c.args.methods.now.items c.loop-method.method-index c.method-item.result c.in_signature-found.result c.deref-method-items.ensures.value c.loop-method-test.true c.method-item.is c.loop-method.invariant c.in_signature-found.ensures (sym c.is_some.ensures ∙ c.if-is_some.true)

pub in_methods-loop-method-preserved : goal.in_methods-loop-method-preserved
in_methods-loop-method-preserved t c =
    passed c.args.start listed_methods one_method (λ n. refl) methods_first c.deref-method-items.result.now c.loop-method.method-index c.method-item.result c.in_signature-found.result c.loop-method-test.true c.method-item.is c.loop-method.invariant c.in_signature-found.ensures (sym c.is_some.ensures ∙ c.if-is_some.false)

pub in_params-returns-then-is_some : goal.in_params-returns-then-is_some
in_params-returns-then-is_some t c =
    hit c.args.start listed_params one_param (λ n. refl) params_first c.deref-param-items.result.now c.args.params.now.items c.loop-param.param-index c.param-item.result c.in_type-found.result c.deref-param-items.ensures.value c.loop-param-test.true c.param-item.is c.loop-param.invariant c.in_type-found.ensures (sym c.is_some.ensures ∙ c.if-is_some.true)

pub in_params-loop-param-preserved : goal.in_params-loop-param-preserved
in_params-loop-param-preserved t c =
    passed c.args.start listed_params one_param (λ n. refl) params_first c.deref-param-items.result.now c.loop-param.param-index c.param-item.result c.in_type-found.result c.loop-param-test.true c.param-item.is c.loop-param.invariant c.in_type-found.ensures (sym c.is_some.ensures ∙ c.if-is_some.false)

pub in_results-returns-in-Listed : goal.in_results-returns-in-Listed
in_results-returns-in-Listed t c = c.in_params.ensures ∙ sym (ap (first_used c.args.start) (ap (λ r. result_used (shape_results r)) c.in-Listed.is ∙ ap result_used (listed_parts c.in-Listed.params)))

pub in_signature-returns-in-None : goal.in_signature-returns-in-None
in_signature-returns-in-None t c = behind c.args.start c.in_params.result c.in_results.result _ _ _ (ap signature_used (signature_parts c.args.signature.now)) c.in_params.ensures c.in-None.is c.in_results.ensures

pub in_signature-returns-in_default : goal.in_signature-returns-in_default
in_signature-returns-in_default t c = front c.args.start c.in_params.result _ _ (result_used (shape_results (out-Signature c.args.signature.now).results)) (ap signature_used (signature_parts c.args.signature.now)) c.in_params.ensures c.in_default.not-None

pub in_type-returns-in-Struct : goal.in_type-returns-in-Struct
in_type-returns-in-Struct t c =
    let w = c.in-Struct in
    c.in_field_lines.ensures ∙ sym (ap (λ x. first_used c.args.start (type_used x)) (ap shape_type w.is ∙ shape_struct w.field-0 w.field-1 w.lines w.field-3))

pub in_type-returns-in-Interface : goal.in_type-returns-in-Interface
in_type-returns-in-Interface t c =
    let w = c.in-Interface in
    c.in_methods.ensures ∙ sym (ap (λ x. first_used c.args.start (type_used x)) (ap shape_type w.is ∙ shape_interface w.field-0 w.field-1 w.methods w.field-3))

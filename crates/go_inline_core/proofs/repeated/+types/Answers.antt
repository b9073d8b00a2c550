use Rattle.std.proofs.Common.{[], refl, ap, sym, subst, ◌∙◌}
use Rattle.go_tree_nodes.specs.TypeShapes.{shape_type}
use Rattle.go_tree_nodes.proofs.TypeShapes.{shape_struct, shape_interface}
use Rattle.go_inline_core.specs.Inline.{repeated_params}
use Rattle.go_inline_core.specs.mirrors.Listing.{Breaks}
use Rattle.go_inline_core.proofs.ListLemmas.{adds_same, adds_both, adds_step, adds_whole}
use Rattle.go_inline_core.proofs.FaultLemmas.{line_repeated, method_repeated, entry_repeated, method_breaks, fields_repeated_list, methods_repeated_list, entries_repeated_list, signature_breaks, listed_breaks}
use Rattle.go_inline_core.proofs.repeated.+types.Goals as goal

pub check_fields-loop-line-preserved : goal.check_fields-loop-line-preserved
check_fields-loop-line-preserved t c = adds_step line_repeated [] c.deref-line-items.result.now c.loop-line.line-index c.line-item.result _ _ _ c.loop-line-test.true c.line-item.is c.loop-line.invariant c.check_line.ensures

pub check_fields-returns : goal.check_fields-returns
check_fields-returns t c = adds_whole line_repeated [] c.deref-line-items.result.now c.args.lines.now.items c.loop-line.line-index _ _ _ c.deref-line-items.ensures.value c.loop-line-test.false (fields_repeated_list c.args.lines.now.items) c.loop-line.invariant

pub check_methods-loop-method-preserved : goal.check_methods-loop-method-preserved
check_methods-loop-method-preserved t c = adds_step method_repeated [] c.deref-method-items.result.now c.loop-method.method-index c.method-item.result _ _ _ c.loop-method-test.true c.method-item.is c.loop-method.invariant (subst (λ us. Breaks c.loop-method.list us c.check_signature.new.list) (sym (method_breaks c.method-item.result)) c.check_signature.ensures)

pub check_methods-returns : goal.check_methods-returns
check_methods-returns t c = adds_whole method_repeated [] c.deref-method-items.result.now c.args.methods.now.items c.loop-method.method-index _ _ _ c.deref-method-items.ensures.value c.loop-method-test.false (methods_repeated_list c.args.methods.now.items) c.loop-method.invariant

pub check_params-loop-param-preserved : goal.check_params-loop-param-preserved
check_params-loop-param-preserved t c = adds_step entry_repeated [] c.deref-param-items.result.now c.loop-param.param-index c.param-item.result _ _ _ c.loop-param-test.true c.param-item.is c.loop-param.invariant c.check_type.ensures

pub check_params-returns : goal.check_params-returns
check_params-returns t c = adds_whole entry_repeated [] c.deref-param-items.result.now c.args.params.now.items c.loop-param.param-index _ _ _ c.deref-param-items.ensures.value c.loop-param-test.false (entries_repeated_list c.args.params.now.items) c.loop-param.invariant

pub check_type-returns-in-Struct : goal.check_type-returns-in-Struct
check_type-returns-in-Struct t c =
    let w = c.in-Struct in
    adds_same _ _ _ _ (ap repeated_params (ap shape_type w.is ∙ shape_struct w.field-0 w.field-1 w.lines w.field-3)) c.check_fields.ensures

pub check_type-returns-in-Interface : goal.check_type-returns-in-Interface
check_type-returns-in-Interface t c =
    let w = c.in-Interface in
    adds_same _ _ _ _ (ap repeated_params (ap shape_type w.is ∙ shape_interface w.field-0 w.field-1 w.methods w.field-3)) c.check_methods.ensures

pub check_signature-returns : goal.check_signature-returns
check_signature-returns t c = adds_both _ _ _ _ _ _ refl c.check_names.ensures (adds_both _ _ _ _ _ _ (signature_breaks c.args.signature.now) c.check_params.ensures c.check_results.ensures)

pub check_results-returns-in-Listed : goal.check_results-returns-in-Listed
check_results-returns-in-Listed t c = adds_same _ _ _ _ (listed_breaks c.args.results.now c.in-Listed.params c.in-Listed.is) c.check_params.ensures

use Rattle.std.proofs.Common.{[], ap, sym, subst, ◌∙◌}
use Rattle.go_tree_nodes.specs.TypeShapes.{shape_type, shape_results}
use Rattle.go_tree_core.specs.Occurrences.{type_occs, field_occs, result_occs}
use Rattle.go_tree_core.proofs.OccLemmas.{field_line_occs, method_occs, param_occs, fields_occs_list, methods_occs_list, params_occs_list, method_has, signature_has, listed_has}
use Rattle.go_tree_nodes.proofs.TypeShapes.{shape_struct, shape_interface}
use Rattle.go_tree_core.proofs.Visits.{sees_same, sees_both, sees_step, sees_whole}
use Rattle.go_tree_core.proofs.type_occurrences.+visit.Goals as goal

pub visit_field_lines-loop-line-preserved : goal.visit_field_lines-loop-line-preserved
visit_field_lines-loop-line-preserved g t c = sees_step g.V.Visitor.Sees field_line_occs g.met.V.Visitor.sees_more [] c.deref-line-items.result.now c.loop-line.line-index c.line-item.result _ _ _ c.loop-line-test.true c.line-item.is c.loop-line.invariant c.visit_fields.ensures

pub visit_field_lines-returns : goal.visit_field_lines-returns
visit_field_lines-returns g t c = sees_whole g.V.Visitor.Sees field_line_occs [] c.deref-line-items.result.now c.args.lines.now.items c.loop-line.line-index _ _ _ c.deref-line-items.ensures.value c.loop-line-test.false (fields_occs_list c.args.lines.now.items) c.loop-line.invariant

pub visit_methods-loop-method-preserved : goal.visit_methods-loop-method-preserved
visit_methods-loop-method-preserved g t c = sees_step g.V.Visitor.Sees method_occs g.met.V.Visitor.sees_more [] c.deref-method-items.result.now c.loop-method.method-index c.method-item.result _ _ _ c.loop-method-test.true c.method-item.is c.loop-method.invariant (subst (λ os. g.V.Visitor.Sees c.loop-method.visitor os c.visit_signature.new.visitor) (sym (method_has c.method-item.result)) c.visit_signature.ensures)

pub visit_methods-returns : goal.visit_methods-returns
visit_methods-returns g t c = sees_whole g.V.Visitor.Sees method_occs [] c.deref-method-items.result.now c.args.methods.now.items c.loop-method.method-index _ _ _ c.deref-method-items.ensures.value c.loop-method-test.false (methods_occs_list c.args.methods.now.items) c.loop-method.invariant

pub visit_params-loop-param-preserved : goal.visit_params-loop-param-preserved
visit_params-loop-param-preserved g t c = sees_step g.V.Visitor.Sees param_occs g.met.V.Visitor.sees_more [] c.deref-param-items.result.now c.loop-param.param-index c.param-item.result _ _ _ c.loop-param-test.true c.param-item.is c.loop-param.invariant c.visit_type.ensures

pub visit_params-returns : goal.visit_params-returns
visit_params-returns g t c = sees_whole g.V.Visitor.Sees param_occs [] c.deref-param-items.result.now c.args.params.now.items c.loop-param.param-index _ _ _ c.deref-param-items.ensures.value c.loop-param-test.false (params_occs_list c.args.params.now.items) c.loop-param.invariant

pub visit_type-returns-in-Struct : goal.visit_type-returns-in-Struct
visit_type-returns-in-Struct g t c =
    let w = c.in-Struct in
    let e = ap shape_type w.is ∙ shape_struct w.field-0 w.field-1 w.lines w.field-3 in
    sees_same g.V.Visitor.Sees _ _ _ _ (ap type_occs e) c.visit_field_lines.ensures

pub visit_type-returns-in-Interface : goal.visit_type-returns-in-Interface
visit_type-returns-in-Interface g t c =
    let w = c.in-Interface in
    let e = ap shape_type w.is ∙ shape_interface w.field-0 w.field-1 w.methods w.field-3 in
    sees_same g.V.Visitor.Sees _ _ _ _ (ap type_occs e) c.visit_methods.ensures

pub visit_signature-returns : goal.visit_signature-returns
visit_signature-returns g t c = sees_both g.V.Visitor.Sees g.met.V.Visitor.sees_more _ _ _ _ _ _ (signature_has c.args.signature.now) c.visit_params.ensures c.visit_results.ensures

pub visit_results-returns-in-Listed : goal.visit_results-returns-in-Listed
visit_results-returns-in-Listed g t c = sees_same g.V.Visitor.Sees _ _ _ _ (listed_has c.args.results.now c.in-Listed.params c.in-Listed.is) c.visit_params.ensures

pub visit_type-returns-in-Name : goal.visit_type-returns-in-Name
visit_type-returns-in-Name g t c = sees_same g.V.Visitor.Sees _ _ _ _ (ap (λ t. type_occs (shape_type t)) c.in-Name.is) c.visit_type_name.ensures

pub visit_fields-returns-in-Named : goal.visit_fields-returns-in-Named
visit_fields-returns-in-Named g t c = sees_same g.V.Visitor.Sees _ _ _ _ (ap field_occs c.in-Named.is) c.visit_type.ensures

pub visit_fields-returns-in-Embedded : goal.visit_fields-returns-in-Embedded
visit_fields-returns-in-Embedded g t c = sees_same g.V.Visitor.Sees _ _ _ _ (ap field_occs c.in-Embedded.is) c.visit_type_name.ensures

pub visit_results-returns-in-Nothing : goal.visit_results-returns-in-Nothing
visit_results-returns-in-Nothing g t c = sees_same g.V.Visitor.Sees _ _ _ _ (ap (λ r. result_occs (shape_results r)) c.in-Nothing.is) (g.met.V.Visitor.sees_none _)

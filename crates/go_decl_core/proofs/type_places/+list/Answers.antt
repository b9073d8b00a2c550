use Rattle.std.proofs.Common.{[], ◌∷◌, refl, ap, ◌∙◌}
use Rattle.go_tree_nodes.specs.declared.types.MethodLine.{out-MethodLine}
use Rattle.go_tree_nodes.specs.TypeShapes.{shape_type, shape_signature, shape_names}
use Rattle.go_tree_nodes.proofs.TypeShapes.{shape_struct, shape_interface}
use Rattle.go_decl_core.specs.declared.places.DeclKind.TheVariants as kinds
use Rattle.go_decl_core.specs.Outer.{Part, outer, names_outers, type_outers, signature_outers}
use Rattle.go_decl_core.proofs.Adding.{adds_same, adds_both, adds_step, adds_whole}
use Rattle.go_decl_core.proofs.ListLemmas.{field_line_outers, method_outers, param_outers, fields_list, methods_list, params_list, method_has, signature_has, listed_has}
use Rattle.go_decl_core.proofs.type_places.+list.Goals as goal

pub list_field_lines-loop-line-preserved : goal.list_field_lines-loop-line-preserved
list_field_lines-loop-line-preserved t c = adds_step field_line_outers _ [] c.deref-line-items.result.now c.loop-line.line-index c.line-item.result c.loop-line-test.true c.line-item.is c.loop-line.invariant c.list_fields.ensures

pub list_field_lines-returns : goal.list_field_lines-returns
list_field_lines-returns t c = adds_whole field_line_outers _ [] c.deref-line-items.result.now c.args.lines.now.items c.loop-line.line-index _ c.deref-line-items.ensures.value c.loop-line-test.false (fields_list c.args.lines.now.items) c.loop-line.invariant

pub list_methods-loop-method-preserved : goal.list_methods-loop-method-preserved
list_methods-loop-method-preserved t c = adds_step method_outers _ [] c.deref-method-items.result.now c.loop-method.method-index c.method-item.result c.loop-method-test.true c.method-item.is c.loop-method.invariant (adds_both _ (outer kinds.Method Part (out-MethodLine c.method-item.result).name ∷ []) (signature_outers (shape_signature (out-MethodLine c.method-item.result).signature)) _ (method_has c.method-item.result) c.add.ensures c.list_signature.ensures)

pub list_methods-returns : goal.list_methods-returns
list_methods-returns t c = adds_whole method_outers _ [] c.deref-method-items.result.now c.args.methods.now.items c.loop-method.method-index _ c.deref-method-items.ensures.value c.loop-method-test.false (methods_list c.args.methods.now.items) c.loop-method.invariant

pub list_params-loop-param-preserved : goal.list_params-loop-param-preserved
list_params-loop-param-preserved t c = adds_step param_outers _ [] c.deref-param-items.result.now c.loop-param.param-index c.param-item.result c.loop-param-test.true c.param-item.is c.loop-param.invariant (adds_both _ (names_outers (shape_names c.param-item.result.names)) (type_outers (shape_type c.param-item.result.type_expr)) _ refl c.add_names.ensures c.list_type.ensures)

pub list_params-returns : goal.list_params-returns
list_params-returns t c = adds_whole param_outers _ [] c.deref-param-items.result.now c.args.params.now.items c.loop-param.param-index _ c.deref-param-items.ensures.value c.loop-param-test.false (params_list c.args.params.now.items) c.loop-param.invariant

pub list_type-returns-in-Struct : goal.list_type-returns-in-Struct
list_type-returns-in-Struct t c =
    let w = c.in-Struct in
    let e = ap shape_type w.is ∙ shape_struct w.field-0 w.field-1 w.lines w.field-3 in
    adds_same _ _ _ (ap type_outers e) c.list_field_lines.ensures

pub list_type-returns-in-Interface : goal.list_type-returns-in-Interface
list_type-returns-in-Interface t c =
    let w = c.in-Interface in
    let e = ap shape_type w.is ∙ shape_interface w.field-0 w.field-1 w.methods w.field-3 in
    adds_same _ _ _ (ap type_outers e) c.list_methods.ensures

pub list_signature-returns : goal.list_signature-returns
list_signature-returns t c = adds_both _ _ _ _ (signature_has c.args.signature.now) c.list_params.ensures c.list_results.ensures

pub list_results-returns-in-Listed : goal.list_results-returns-in-Listed
list_results-returns-in-Listed t c = adds_same _ _ _ (listed_has c.args.results.now c.in-Listed.params c.in-Listed.is) c.list_params.ensures

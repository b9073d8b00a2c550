use Rattle.std.proofs.Common.{ap, sym, ◌∙◌}
use Rattle.go_tree_nodes.specs.declared.types.MethodLine.{out-MethodLine, is-MethodLine'}
use Rattle.go_tree_nodes.specs.declared.types.Signature.{out-Signature}
use Rattle.go_tree_nodes.specs.declared.types.Params.{out-Params}
use Rattle.go_tree_nodes.specs.Trees.{NamedType, Pointer, ParenType, OneResult, Struct, Interface, NoFields, NoMethods, Method, Signed, Results, NoParams, Param}
use Rattle.go_tree_nodes.specs.TypeShapes.{shape_names, shape_type, shape_signature, shape_results, fields_before, params_of}
use Rattle.go_tree_core.specs.copies.Respelled.{spelled, names_with, type_with, fields_with, methods_with, signature_with, result_with, params_with}
use Rattle.go_tree_core.proofs.CopiesSameTrees.{one_copied, all_copied, field_tree, method_tree, param_tree, same_fields, same_methods, same_params, of_made}
use Rattle.go_tree_nodes.proofs.TypeShapes.{shape_struct, shape_interface, method_rolled, listed_parts, signature_parts, shape_listed, shape_signed}
use Rattle.go_tree_core.proofs.copies.copies.+types.Goals as goal

pub copy_field_lines-loop-line-preserved : goal.copy_field_lines-loop-line-preserved
copy_field_lines-loop-line-preserved t c =
    let x = c.line-item.result in
    let tag = of_made _ _ _ c.in-Ok.ensures.0 c.copy_tag-tag.ensures in
    let fields = of_made _ _ _ c.in-Ok.ensures.1 c.copy_fields.ensures in
    let same = ap (λ t. fields_before c.in-Ok.copy.1 t x.semicolon NoFields) tag ∙ fields x.tag x.semicolon NoFields in
    one_copied (fields_with (spelled c.args.copier.now)) field_tree _ _ _ _ _ _ c.loop-line-test.true c.line-item.is c.in-Ok-add.ensures same c.loop-line.invariant

pub copy_field_lines-returns : goal.copy_field_lines-returns
copy_field_lines-returns t c = same_fields (spelled c.args.copier.now) _ _ (all_copied (fields_with (spelled c.args.copier.now)) field_tree _ _ _ _ c.deref-line-items.ensures.value c.loop-line-test.false c.loop-line.invariant)

pub copy_methods-loop-method-preserved : goal.copy_methods-loop-method-preserved
copy_methods-loop-method-preserved t c =
    let x = out-MethodLine c.method-item.result in
    let y = c.in-Ok.copy.1 in
    let h = spelled c.args.copier.now in
    let same =
    ap method_tree (method_rolled c.in-Ok.copy.0 y x.semicolon)
    ∙ ap (λ n. Method n (shape_signature y) x.semicolon NoMethods) (of_made _ _ _ c.in-Ok.ensures.0 c.copy_ident-name.ensures)
    ∙ ap (λ s. Method (h x.name) s x.semicolon NoMethods) (of_made _ _ _ c.in-Ok.ensures.1 c.copy_signature.ensures)
    ∙ sym (ap (λ m. methods_with h (method_tree m)) (is-MethodLine' c.method-item.result)) in
    one_copied (methods_with h) method_tree _ _ _ _ _ _ c.loop-method-test.true c.method-item.is c.in-Ok-add.ensures same c.loop-method.invariant

pub copy_methods-returns : goal.copy_methods-returns
copy_methods-returns t c = same_methods (spelled c.args.copier.now) _ _ (all_copied (methods_with (spelled c.args.copier.now)) method_tree _ _ _ _ c.deref-method-items.ensures.value c.loop-method-test.false c.loop-method.invariant)

pub copy_params-loop-param-preserved : goal.copy_params-loop-param-preserved
copy_params-loop-param-preserved t c =
    let x = c.param-item.result in
    let names = of_made _ _ _ c.in-Ok.ensures.0 c.copy_some_idents-names.ensures in
    let type_expr = of_made _ _ _ c.in-Ok.ensures.1 c.copy_type.ensures in
    let same = ap (λ n. Param n (shape_type c.in-Ok.copy.1) x.comma NoParams) names ∙ ap (λ t. Param (names_with (spelled c.args.copier.now) (shape_names x.names)) t x.comma NoParams) type_expr in
    one_copied (params_with (spelled c.args.copier.now)) param_tree _ _ _ _ _ _ c.loop-param-test.true c.param-item.is c.in-Ok-add.ensures same c.loop-param.invariant

pub copy_params-returns : goal.copy_params-returns
copy_params-returns t c = same_params (spelled c.args.copier.now) _ _ (all_copied (params_with (spelled c.args.copier.now)) param_tree _ _ _ _ c.deref-param-items.ensures.value c.loop-param-test.false c.loop-param.invariant)

pub copy_type-returns-in-Ok-copy_field_lines : goal.copy_type-returns-in-Ok-copy_field_lines
copy_type-returns-in-Ok-copy_field_lines t c =
    let w = c.in-Struct in
    shape_struct w.keyword w.«open» c.in-Ok-copy_field_lines.copy w.close
    ∙ ap (λ l. Struct w.keyword w.«open» l w.close) c.in-Ok-copy_field_lines.ensures
    ∙ sym (ap (type_with (spelled c.args.copier.now)) (ap shape_type w.is ∙ shape_struct w.keyword w.«open» w.lines w.close))

pub copy_type-returns-in-Ok-copy_methods : goal.copy_type-returns-in-Ok-copy_methods
copy_type-returns-in-Ok-copy_methods t c =
    let w = c.in-Interface in
    shape_interface w.keyword w.«open» c.in-Ok-copy_methods.copy w.close
    ∙ ap (λ l. Interface w.keyword w.«open» l w.close) c.in-Ok-copy_methods.ensures
    ∙ sym (ap (type_with (spelled c.args.copier.now)) (ap shape_type w.is ∙ shape_interface w.keyword w.«open» w.methods w.close))

pub copy_signature-returns : goal.copy_signature-returns
copy_signature-returns t c =
    let p = out-Params (out-Signature c.args.signature.now).params in
    let made = c.in-Ok.copy in
    let h = spelled c.args.copier.now in
    shape_signed p.«open» made.0 p.close made.1
    ∙ ap (λ l. Signed p.«open» l p.close (shape_results made.1)) (of_made _ _ _ c.in-Ok.ensures.0 c.copy_params-entries.ensures)
    ∙ ap (Signed p.«open» (params_with h (params_of p.entries.items)) p.close) (of_made _ _ _ c.in-Ok.ensures.1 c.copy_results.ensures)
    ∙ sym (ap (signature_with h) (signature_parts c.args.signature.now))

pub copy_results-returns-in-Ok-copy_params : goal.copy_results-returns-in-Ok-copy_params
copy_results-returns-in-Ok-copy_params t c =
    let p = out-Params c.in-Listed.params in
    shape_listed p.«open» c.in-Ok-copy_params.copy p.close
    ∙ ap (λ l. Results p.«open» l p.close) c.in-Ok-copy_params.ensures
    ∙ sym (ap (result_with (spelled c.args.copier.now)) (ap shape_results c.in-Listed.is ∙ listed_parts c.in-Listed.params))

pub copy_type-returns-in-Ok : goal.copy_type-returns-in-Ok
copy_type-returns-in-Ok t c = ap NamedType c.in-Ok.ensures ∙ sym (ap (λ t. type_with (spelled c.args.copier.now) (shape_type t)) c.in-Name.is)

pub copy_type-returns-in-Ok-copy_boxed_type : goal.copy_type-returns-in-Ok-copy_boxed_type
copy_type-returns-in-Ok-copy_boxed_type t c =
    let w = c.in-Pointer in
    ap (Pointer w.star) c.in-Ok-copy_boxed_type.ensures ∙ sym (ap (λ t. type_with (spelled c.args.copier.now) (shape_type t)) w.is)

pub copy_type-returns-in-Ok-copy_boxed_type-2 : goal.copy_type-returns-in-Ok-copy_boxed_type-2
copy_type-returns-in-Ok-copy_boxed_type-2 t c =
    let w = c.in-Paren in
    ap (λ t. ParenType w.«open» t w.close) c.in-Ok-copy_boxed_type-2.ensures ∙ sym (ap (λ t. type_with (spelled c.args.copier.now) (shape_type t)) w.is)

pub copy_results-returns-in-Ok : goal.copy_results-returns-in-Ok
copy_results-returns-in-Ok t c = ap OneResult c.in-Ok.ensures ∙ sym (ap (λ r. result_with (spelled c.args.copier.now) (shape_results r)) c.in-Single.is)

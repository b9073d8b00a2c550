use Rattle.std.proofs.Common.{true, ap, sym, subst, ◌∙◌}
use Rattle.std.proofs.lemmas.Result.{IfOk-weaker, on_ok_weaker}
use Rattle.go_tree_nodes.specs.TypeShapes.{shape_idents, shape_type}
use Rattle.go_tree_nodes.proofs.TypeShapes as trees
use Rattle.go_term_core.specs.Terms.{Fields, NoField, AField, StructOf, InterfaceOf, SignOf}
use Rattle.go_term_core.specs.decl_core.declared.places.DeclKind.TheVariants as kinds
use Rattle.go_term_core.specs.Shapes.{shape, sign_of}
use Rattle.go_term_core.specs.declared.term.Params.{roll-Params}
use Rattle.go_term_core.proofs.TermShapes.{shape_struct, shape_interface}
use Rattle.go_typexpr_core.specs.written.Written.{in_file, member_place, named_fields, term_starred, tag_of, term_of, signature_of, fields_of_tree, methods_of_tree}
use Rattle.go_term_core.specs.decl_core.Outer.{last_ident}
use Rattle.go_typexpr_core.specs.written.mirrors.Adding.{Adds, line_fields, lines_of, method_lines_of}
use Rattle.go_typexpr_core.proofs.WrittenCollected.{body_start, lines_step, lines_whole, method_lines_step, params_start, params_step, params_whole, listed_has}
use Rattle.go_typexpr_core.proofs.written.terms.+written.Goals as goal

pub write_results-returns-in-Listed : goal.write_results-returns-in-Listed
write_results-returns-in-Listed g t c =
    IfOk-weaker c.write_params.result _ _ (λ ts had. had ∙ sym (listed_has (g.N.TypeNames.meaning c.args.names.now) (in_file c.args.at.now) c.args.results.now c.in-Listed.listed c.in-Listed.is)) c.write_params.ensures

pub write_signature-returns : goal.write_signature-returns
write_signature-returns g t c =
    let mean = g.N.TypeNames.meaning c.args.names.now in
    let f = in_file c.args.at.now in
    (λ i. SignOf (c.in_ok-params.ensures i) (c.in_ok-results.ensures i)) ∙ sym (ap (signature_of mean f) (trees.signature_parts c.args.tree.now))

pub write_type-returns-in_ok-share-in-Struct : goal.write_type-returns-in_ok-share-in-Struct
write_type-returns-in_ok-share-in-Struct g t c =
    let mean = g.N.TypeNames.meaning c.args.names.now in
    let f = in_file c.args.at.now in
    let w = c.in-Struct in
    let path = c.in_ok-share-in-Struct.field-0 in
    let body = c.in_ok-body-in-Struct.body in
    let tree = ap shape_type w.is ∙ trees.shape_struct w.field-0 w.field-1 w.lines w.field-3 in
    shape_struct path body.fields body.lines
    ∙ ap (StructOf path) c.in_ok-body-in-Struct.ensures.0
    ∙ ap (λ p. StructOf p (fields_of_tree mean f (lines_of w.lines.items))) c.in_ok-share-in-Struct.ensures
    ∙ sym (ap (term_of mean f) tree)

pub write_type-returns-in_ok-share-in-Interface : goal.write_type-returns-in_ok-share-in-Interface
write_type-returns-in_ok-share-in-Interface g t c =
    let mean = g.N.TypeNames.meaning c.args.names.now in
    let f = in_file c.args.at.now in
    let w = c.in-Interface in
    let path = c.in_ok-share-in-Interface.field-0 in
    let methods = c.in_ok-methods-in-Interface.methods in
    let tree = ap shape_type w.is ∙ trees.shape_interface w.field-0 w.field-1 w.lines w.field-3 in
    shape_interface path methods
    ∙ ap (InterfaceOf path) c.in_ok-methods-in-Interface.ensures
    ∙ ap (λ p. InterfaceOf p (methods_of_tree mean f (method_lines_of w.lines.items))) c.in_ok-share-in-Interface.ensures
    ∙ sym (ap (term_of mean f) tree)

pub write_fields-loop-line-preserved : goal.write_fields-loop-line-preserved
write_fields-loop-line-preserved g t c =
    lines_step (g.N.TypeNames.meaning c.args.names.now) (in_file c.args.at.now) c.deref-line-items.result.now c.loop-line.line-index c.line-item.result c.loop-line.body c.write_line.new.body c.loop-line-test.true c.line-item.is c.loop-line.invariant c.in_ok-write_line.ensures

pub write_methods-loop-line-preserved : goal.write_methods-loop-line-preserved
write_methods-loop-line-preserved g t c =
    method_lines_step (g.N.TypeNames.meaning c.args.names.now) (in_file c.args.at.now) c.deref-line-items.result.now c.loop-line.line-index c.line-item.result _ _ (sign_of c.in_ok-signature.signature) c.loop-line-test.true c.line-item.is c.loop-line.invariant c.in_ok-signature.ensures c.in_ok-add_method.ensures

pub write_params-loop-param-preserved : goal.write_params-loop-param-preserved
write_params-loop-param-preserved g t c =
    params_step (g.N.TypeNames.meaning c.args.names.now) (in_file c.args.at.now) c.deref-param-items.result.now c.loop-param.param-index c.param-item.result c.loop-param.params c.add_param.new.params (shape c.in_ok-term.term) c.loop-param-test.true c.param-item.is c.loop-param.invariant c.in_ok-term.ensures c.in_ok-add_param.ensures

pub write_params-loop-param-init : goal.write_params-loop-param-init
write_params-loop-param-init g t c = params_start (roll-Params (record { lines = c.new.result; terms = c.new-2.result })) c.new.ensures.items c.new-2.ensures.items

pub write_params-returns : goal.write_params-returns
write_params-returns g t c =
    params_whole (g.N.TypeNames.meaning c.args.names.now) (in_file c.args.at.now) c.deref-param-items.result.now c.args.trees.now.items c.loop-param.param-index c.loop-param.params c.deref-param-items.ensures.value c.loop-param-test.false c.loop-param.invariant

pub write_fields-loop-line-init : goal.write_fields-loop-line-init
write_fields-loop-line-init g t c = body_start (record { fields = c.new.result; lines = c.new-2.result }) c.new.ensures.items c.new-2.ensures.items

pub write_fields-returns : goal.write_fields-returns
write_fields-returns g t c =
    lines_whole (g.N.TypeNames.meaning c.args.names.now) (in_file c.args.at.now) c.deref-line-items.result.now c.args.trees.now.items c.loop-line.line-index c.loop-line.body c.deref-line-items.ensures.value c.loop-line-test.false c.loop-line.invariant

pub write_line-returns-in_ok-term-in-Named : goal.write_line-returns-in_ok-term-in-Named
write_line-returns-in_ok-term-in-Named g t c =
    let mean = g.N.TypeNames.meaning c.args.names.now in
    let f = in_file c.args.at.now in
    let w = c.in-Named in
    on_ok_weaker c.add_named.result
    (λ adds. subst (λ (fs : Fields). Adds c.args.body.now fs c.add_named.new.body)
    (ap (λ s. named_fields f s (tag_of c.args.tag.now) (shape_idents w.idents) NoField) c.in_ok-term-in-Named.ensures ∙ sym (ap (λ l. line_fields mean f l c.args.tag.now) w.is))
    adds)
    c.add_named.ensures

pub write_line-returns-in_ok-term-in-Embedded : goal.write_line-returns-in_ok-term-in-Embedded
write_line-returns-in_ok-term-in-Embedded g t c =
    let mean = g.N.TypeNames.meaning c.args.names.now in
    let f = in_file c.args.at.now in
    let w = c.in-Embedded in
    on_ok_weaker c.add_embedded.result
    (λ adds. subst (λ (fs : Fields). Adds c.args.body.now fs c.add_embedded.new.body)
    (ap (λ s. AField (last_ident w.name).name (member_place f kinds.Field (last_ident w.name).span.start) true (term_starred w.star s) (tag_of c.args.tag.now) NoField) c.in_ok-term-in-Embedded.ensures ∙ sym (ap (λ l. line_fields mean f l c.args.tag.now) w.is))
    adds)
    c.add_embedded.ensures

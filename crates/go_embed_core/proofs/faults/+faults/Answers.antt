use Rattle.std.proofs.Common.{ℕ, ◌++◌, [], false, get_or, map, refl, ap, sym, ◌∙◌}
use Rattle.std.specs.Prelude.{None}
use Rattle.std.proofs.lemmas.List.{get_or_default}
use Rattle.std.proofs.lemmas.Result.{on_ok_weaker}
use Rattle.go_term_core.specs.Shapes.{Line, shape, fields_in, line_shape, line_with, line_shapes, method_shapes, terms_in}
use Rattle.go_term_core.specs.Terms.{Term, NoType, StructOf, InterfaceOf}
use Rattle.go_term_core.proofs.SameLists.{found, missing}
use Rattle.go_term_core.proofs.TermShapes.{shape_struct, shape_interface}
use Rattle.go_embed_core.specs.Faults.{line_faults, fields_faults, methods_faults, terms_faults}
use Rattle.go_embed_core.proofs.Noting.{line_of, fields_step, methods_step, terms_step, told_nowhere, notes_end}
use Rattle.go_embed_core.proofs.faults.+faults.Goals as goal

pub add_fields-loop-field-preserved : goal.add_fields-loop-field-preserved
add_fields-loop-field-preserved g t c = fields_step (g.K.Kinds.kinds c.args.kinds.now) (line_shapes c.args.lines.now.items) c.loop-field.passed c.check_field.new.passed c.loop-field.last c.first_of_line-last.result c.deref-field-items.result.now c.loop-field.field-index c.field-item.result c.loop-field.faults.items c.check_field.new.faults.items c.add_line.new.faults.items _ c.loop-field-test.true c.field-item.is c.in_ok-check_field.ensures.names c.first_of_line-last.ensures c.in_ok-check_field.ensures.faults c.in_ok-add_line.ensures c.loop-field.invariant

pub add_fields-returns : goal.add_fields-returns
add_fields-returns g t c =
    notes_end (λ l. fields_faults (g.K.Kinds.kinds c.args.kinds.now) c.loop-field.passed c.loop-field.last (fields_in (line_shapes c.args.lines.now.items) l)) c.deref-field-items.result.now c.loop-field.field-index c.loop-field.faults.items _ refl c.loop-field-test.false c.loop-field.invariant
    ∙ ap (λ l. c.args.faults.now.items ++ fields_faults (g.K.Kinds.kinds c.args.kinds.now) c.args.passed.now None (fields_in (line_shapes c.args.lines.now.items) l)) c.deref-field-items.ensures.value

pub add_methods-loop-method-preserved : goal.add_methods-loop-method-preserved
add_methods-loop-method-preserved g t c = methods_step (g.K.Kinds.kinds c.args.kinds.now) c.loop-method.passed c.check_method.new.passed c.deref-method-items.result.now c.loop-method.method-index c.method-item.result c.loop-method.faults.items c.check_method.new.faults.items c.add_terms.new.faults.items c.add_terms-in-loop-method.new.faults.items _ c.loop-method-test.true c.method-item.is c.in_ok-check_method.ensures.names c.in_ok-check_method.ensures.faults c.in_ok-add_terms.ensures c.in_ok-add_terms-2.ensures c.loop-method.invariant

pub add_methods-returns : goal.add_methods-returns
add_methods-returns g t c =
    notes_end (λ l. methods_faults (g.K.Kinds.kinds c.args.kinds.now) c.loop-method.passed (method_shapes l)) c.deref-method-items.result.now c.loop-method.method-index c.loop-method.faults.items _ refl c.loop-method-test.false c.loop-method.invariant
    ∙ ap (λ l. c.args.faults.now.items ++ methods_faults (g.K.Kinds.kinds c.args.kinds.now) c.args.passed.now (method_shapes l)) c.deref-method-items.ensures.value

pub add_terms-loop-number-preserved : goal.add_terms-loop-number-preserved
add_terms-loop-number-preserved g t c =
    let ns = c.deref-number-items.result.now in
    let i = c.loop-number.number-index in
    let n : ℕ = get_or ns i 0 in
    terms_step (g.K.Kinds.kinds c.args.kinds.now) (map shape c.args.terms.now.items) c.loop-number.last c.first_of_number-last.result ns i n c.loop-number.faults.items c.add_numbered.new.faults.items _ c.loop-number-test.true (get_or_default ns i 0 n c.loop-number-test.true) c.first_of_number-last.ensures c.in_ok-add_numbered.ensures c.loop-number.invariant

pub add_terms-returns : goal.add_terms-returns
add_terms-returns g t c =
    notes_end (λ l. terms_faults (g.K.Kinds.kinds c.args.kinds.now) c.loop-number.last (terms_in (map shape c.args.terms.now.items) l)) c.deref-number-items.result.now c.loop-number.number-index c.loop-number.faults.items _ refl c.loop-number-test.false c.loop-number.invariant
    ∙ ap (λ l. c.args.faults.now.items ++ terms_faults (g.K.Kinds.kinds c.args.kinds.now) None (terms_in (map shape c.args.terms.now.items) l)) c.deref-number-items.ensures.value

pub add_line-returns-in-Some : goal.add_line-returns-in-Some
add_line-returns-in-Some g t c =
    let w = c.in-Some in
    let kind = g.K.Kinds.kinds c.args.kinds.now in
    let at = found line_shape (line_with false NoType []) c.deref.result.now c.args.lines.now.items c.args.number w.line c.deref.ensures.value w.ensures.lookup in
    on_ok_weaker c.add_term.result (λ e. e ∙ ap (λ (l : Line). c.args.faults.now.items ++ line_faults kind c.args.last l.term) (sym at)) c.add_term.ensures

pub add_line-returns-in-None : goal.add_line-returns-in-None
add_line-returns-in-None g t c =
    let kind = g.K.Kinds.kinds c.args.kinds.now in
    let at = missing line_shape (line_with false NoType []) c.deref.result.now c.args.lines.now.items c.args.number c.deref.ensures.value c.in-None.ensures.lookup in
    told_nowhere kind c.args.last _ c.args.faults.now.items (ap (λ (l : Line). l.term) at)

pub add_numbered-returns-in-Some : goal.add_numbered-returns-in-Some
add_numbered-returns-in-Some g t c =
    let w = c.in-Some in
    let kind = g.K.Kinds.kinds c.args.kinds.now in
    let at = found shape NoType c.deref.result.now c.args.terms.now.items c.args.number w.term c.deref.ensures.value w.ensures.lookup in
    on_ok_weaker c.add_term.result (λ e. e ∙ ap (λ (u : Term). c.args.faults.now.items ++ line_faults kind c.args.last u) (sym at)) c.add_term.ensures

pub add_numbered-returns-in-None : goal.add_numbered-returns-in-None
add_numbered-returns-in-None g t c =
    let kind = g.K.Kinds.kinds c.args.kinds.now in
    told_nowhere kind c.args.last _ c.args.faults.now.items (missing shape NoType c.deref.result.now c.args.terms.now.items c.args.number c.deref.ensures.value c.in-None.ensures.lookup)

pub add_term-returns-in-Struct : goal.add_term-returns-in-Struct
add_term-returns-in-Struct g t c =
    let w = c.in-Struct in
    let kind = g.K.Kinds.kinds c.args.kinds.now in
    on_ok_weaker c.add_fields.result
    (λ e. e ∙ (ap (λ s. c.args.faults.now.items ++ fields_faults kind s None (fields_in (line_shapes w.lines.items) w.fields.items)) c.new-passed_fields.ensures
    ∙ ap (λ l. c.args.faults.now.items ++ l) (line_of kind c.args.last (shape c.args.term.now) (StructOf w.field-0 (fields_in (line_shapes w.lines.items) w.fields.items)) (ap shape w.is ∙ shape_struct w.field-0 w.fields w.lines) (sym c.is_shared.ensures ∙ c.if-is_shared.false))))
    c.add_fields.ensures

pub add_term-returns-in-Interface : goal.add_term-returns-in-Interface
add_term-returns-in-Interface g t c =
    let w = c.in-Interface in
    let kind = g.K.Kinds.kinds c.args.kinds.now in
    on_ok_weaker c.add_methods.result
    (λ e. e ∙ (ap (λ s. c.args.faults.now.items ++ methods_faults kind s (method_shapes w.methods.items)) c.new-passed_methods.ensures
    ∙ ap (λ l. c.args.faults.now.items ++ l) (line_of kind c.args.last (shape c.args.term.now) (InterfaceOf w.field-0 (method_shapes w.methods.items)) (ap shape w.is ∙ shape_interface w.field-0 w.methods) (sym c.is_shared.ensures ∙ c.if-is_shared.false))))
    c.add_methods.ensures

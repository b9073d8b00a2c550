use Rattle.std.proofs.Common.{ap, sym, ◌∙◌}
use Rattle.go_term_core.specs.Terms.{StructOf, InterfaceOf, AMethod, NoMethod}
use Rattle.go_term_core.specs.Shapes.{shape, line_with, line_shape, terms_in, fields_in, method_shapes}
use Rattle.go_term_core.proofs.TermShapes.{shape_struct, shape_interface}
use Rattle.go_term_core.proofs.Copied.{one_copied, all_copied, of_made, method_term, same_methods}
use Rattle.go_term_core.proofs.copies.+copies.Goals as goal

pub copy_lines-returns : goal.copy_lines-returns
copy_lines-returns t c = all_copied line_shape _ _ _ _ c.deref-line-items.ensures.value c.loop-line-test.false c.loop-line.invariant

pub copy_methods-returns : goal.copy_methods-returns
copy_methods-returns t c = same_methods _ _ (all_copied method_term _ _ _ _ c.deref-method-items.ensures.value c.loop-method-test.false c.loop-method.invariant)

pub copy_terms-returns : goal.copy_terms-returns
copy_terms-returns t c = all_copied shape _ _ _ _ c.deref-term-items.ensures.value c.loop-term-test.false c.loop-term.invariant

pub copy_methods-loop-method-preserved : goal.copy_methods-loop-method-preserved
copy_methods-loop-method-preserved t c =
    let x = c.method-item.result in
    let name = of_made _ _ _ c.in-Ok-both.ensures.0 c.copy-name.ensures.same in
    let signature = of_made _ _ _ c.in-Ok-both.ensures.1 c.copy_signature.ensures in
    one_copied method_term _ _ _ _ x _ c.loop-method-test.true c.method-item.is c.in-Ok-add.ensures (λ i. AMethod (name i) x.place (signature i) NoMethod) c.loop-method.invariant

pub copy_terms-loop-term-preserved : goal.copy_terms-loop-term-preserved
copy_terms-loop-term-preserved t c =
    one_copied shape _ _ _ _ c.term-item.result _ c.loop-term-test.true c.term-item.is c.in-Ok-add.ensures c.in-Ok-copy.ensures c.loop-term.invariant

pub copy_lines-loop-line-preserved : goal.copy_lines-loop-line-preserved
copy_lines-loop-line-preserved t c =
    let x = c.line-item.result in
    let tag = of_made _ _ _ c.in-Ok-both.ensures.0 c.copy.ensures in
    let term = of_made _ _ _ c.in-Ok-both.ensures.1 c.copy-in-loop-line.ensures in
    one_copied line_shape _ _ _ _ x _ c.loop-line-test.true c.line-item.is c.in-Ok-add.ensures (λ i. line_with x.embedded (term i) (tag i)) c.loop-line.invariant

pub copy-returns-in-Ok-both : goal.copy-returns-in-Ok-both
copy-returns-in-Ok-both t c =
    let w = c.in-Struct in
    let made = c.in-Ok-both.copy in
    let heads = of_made _ _ _ c.in-Ok-both.ensures.0 c.both-heads.ensures in
    let path = of_made _ _ _ heads.0 c.share-in-Struct.ensures in
    let fields = of_made _ _ _ heads.1 c.copy_fields.ensures in
    let lines = of_made _ _ _ c.in-Ok-both.ensures.1 c.copy_lines.ensures in
    shape_struct made.0.0 made.0.1 made.1
    ∙ (λ i. StructOf (path i) (fields_in (lines i) (fields i)))
    ∙ sym (ap shape w.is ∙ shape_struct w.path w.fields w.lines)

pub copy-returns-in-Ok-both-2 : goal.copy-returns-in-Ok-both-2
copy-returns-in-Ok-both-2 t c =
    let w = c.in-Interface in
    let made = c.in-Ok-both-2.copy in
    shape_interface made.0 made.1
    ∙ ap (λ l. InterfaceOf made.0 l) (of_made _ _ _ c.in-Ok-both-2.ensures.1 c.copy_methods.ensures)
    ∙ ap (λ p. InterfaceOf p (method_shapes w.methods.items)) (of_made _ _ _ c.in-Ok-both-2.ensures.0 c.share-in-Interface.ensures)
    ∙ sym (ap shape w.is ∙ shape_interface w.path w.methods)

pub copy_params-returns : goal.copy_params-returns
copy_params-returns t c =
    let w = c.in-Ok in
    let lines = of_made _ _ _ w.ensures.0 c.copy_numbers-lines.ensures in
    let terms = of_made _ _ _ w.ensures.1 c.copy_terms.ensures in
    (λ i. terms_in (terms i) (lines i))

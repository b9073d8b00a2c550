use Rattle.std.proofs.Common.{[], ◌∷◌, length, map, false, ap, sym, ◌∙◌}
use Rattle.std.proofs.lemmas.List.{get_or_default}
use Rattle.go_term_core.specs.Terms.{StructOf, InterfaceOf, NoMethod}
use Rattle.go_term_core.specs.Shapes.{shape, line_shapes, fields_in, terms_in, method_shapes}
use Rattle.go_term_core.proofs.Copied.{of_made}
use Rattle.go_term_core.proofs.TermShapes.{shape_struct, shape_interface}
use Rattle.go_term_core.specs.settling.Settled.{settled, settled_methods}
use Rattle.go_term_core.specs.settling.mirrors.Kept.{settled_line, put_method, make_method}
use Rattle.go_term_core.proofs.SettlingLoops.{one_kept, one_left, all_kept, one_made, all_made, within}
use Rattle.go_term_core.proofs.SettlingMasks.{put_line, make_line, put_term, make_term, fields_masked, terms_settled, lines_start, methods_start, terms_start, lines_onto, methods_onto, terms_onto, method_before}
use Rattle.go_term_core.proofs.settling.terms.+settling.Goals as goal
use Rattle.go_term_core.proofs.settling.terms.+settling.Goals.{settle_methods-then-index+in-Ok-settle_method+in-Ok-add, settle_methods-else-index}

pub settle-returns-in-Ok-both : goal.settle-returns-in-Ok-both
settle-returns-in-Ok-both g t c =
    let kind = g.K.Kinds.kinds c.args.kinds.now in
    let w = c.in-Struct in
    let made = c.in-Ok-both.made in
    let heads = of_made _ _ _ c.in-Ok-both.ensures.0 c.both-heads.ensures in
    let path = of_made _ _ _ heads.0 c.share.ensures in
    let fields = of_made _ _ _ heads.1 c.settle_fields.ensures in
    let lines = of_made _ _ _ c.in-Ok-both.ensures.1 c.settle_lines.ensures in
    shape_struct made.0.0 made.0.1 made.1
    ∙ ((λ i. StructOf (path i) (fields_in (lines i) (fields i)))
    ∙ (ap (StructOf w.path) (fields_masked kind (line_shapes w.lines.items) w.fields.items [])
    ∙ sym (ap (λ t. settled kind (shape t)) w.is ∙ ap (settled kind) (shape_struct w.path w.fields w.lines))))

pub settle-returns-in-Ok-both-2 : goal.settle-returns-in-Ok-both-2
settle-returns-in-Ok-both-2 g t c =
    let kind = g.K.Kinds.kinds c.args.kinds.now in
    let w = c.in-Interface in
    let made = c.in-Ok-both-2.made in
    shape_interface made.0 made.1
    ∙ ap (λ l. InterfaceOf made.0 l) (of_made _ _ _ c.in-Ok-both-2.ensures.1 c.settle_methods-methods.ensures)
    ∙ ap (λ p. InterfaceOf p (settled_methods kind [] (method_shapes w.methods.items))) (of_made _ _ _ c.in-Ok-both-2.ensures.0 c.share-in-Interface.ensures)
    ∙ sym (ap (λ t. settled kind (shape t)) w.is ∙ ap (settled kind) (shape_interface w.path w.methods))

pub settle_methods-loop-i-init : goal.settle_methods-loop-i-init
settle_methods-loop-i-init g t c =
    methods_start (g.K.Kinds.kinds c.args.kinds.now) c.new-settled.result.items c.in-Ok.made.items c.deref-method-items.result.now c.deref.result.now c.new-settled.ensures.items c.in-Ok.ensures.kept
    (c.deref.ensures.value ∙ sym c.deref-method-items.ensures.value)

pub settle_methods-loop-i-preserved : goal.settle_methods-loop-i-preserved
settle_methods-loop-i-preserved g t c =
    let kind = g.K.Kinds.kinds c.args.kinds.now in
    let k_lt = within c.loop-i.i (length c.in-Ok.made.items) (length c.deref.result.now) (length c.deref-method-items.result.now) c.loop-i-test.true c.in-Ok.ensures.len (ap length (c.deref.ensures.value ∙ sym c.deref-method-items.ensures.value)) in
    let read = get_or_default c.in-Ok.made.items c.loop-i.i false c.index.result.now k_lt ∙ sym c.index.ensures in
    elim c.if-index.branch [
      | settle_methods-then-index+in-Ok-settle_method+in-Ok-add w ↦ rw w.settled-is
          (one_kept put_method (make_method kind) NoMethod _ _ _ _ _ _ _ _ k_lt c.loop-i-test.true (read ∙ w.if-index.true) c.method-item.is w.in-Ok-add.ensures
          (λ rest. method_before kind w.in-Ok-settle_method.made c.method-item.result w.in-Ok-settle_method.ensures rest) c.loop-i.invariant)
      | settle_methods-else-index w ↦ rw w.settled-is
          (one_left put_method (make_method kind) NoMethod _ _ _ _ _ _ k_lt c.loop-i-test.true (read ∙ w.if-index.false) c.method-item.is c.loop-i.invariant)
    ]

pub settle_methods-returns : goal.settle_methods-returns
settle_methods-returns g t c =
    let kind = g.K.Kinds.kinds c.args.kinds.now in
    sym (methods_onto (make_method kind) c.loop-i.settled.items)
    ∙ (all_kept put_method (make_method kind) NoMethod c.loop-i.settled.items c.in-Ok.made.items c.deref-method-items.result.now c.loop-i.i _ c.loop-i-test.false c.loop-i.invariant
    ∙ ap (λ l. settled_methods kind [] (method_shapes l)) c.deref-method-items.ensures.value)

pub settle_lines-loop-line-init : goal.settle_lines-loop-line-init
settle_lines-loop-line-init g t c = lines_start (g.K.Kinds.kinds c.args.kinds.now) c.new-settled.result.items c.deref-line-items.result.now c.new-settled.ensures.items

pub settle_lines-loop-line-preserved : goal.settle_lines-loop-line-preserved
settle_lines-loop-line-preserved g t c =
    one_made put_line (make_line (g.K.Kinds.kinds c.args.kinds.now)) [] _ _ _ _ _ _ _ c.loop-line-test.true c.line-item.is c.in-Ok-add.ensures (λ rest. ap (λ l. l ∷ rest) c.in-Ok.ensures) c.loop-line.invariant

pub settle_lines-returns : goal.settle_lines-returns
settle_lines-returns g t c =
    let kind = g.K.Kinds.kinds c.args.kinds.now in
    sym (lines_onto (make_line kind) c.loop-line.settled.items)
    ∙ (all_made put_line (make_line kind) [] c.loop-line.settled.items c.deref-line-items.result.now c.loop-line.line-index _ c.loop-line-test.false c.loop-line.invariant
    ∙ ap (λ l. map (settled_line kind) (line_shapes l)) c.deref-line-items.ensures.value)

pub settle_terms-loop-term-init : goal.settle_terms-loop-term-init
settle_terms-loop-term-init g t c = terms_start (g.K.Kinds.kinds c.args.kinds.now) c.new-settled.result.items c.deref-term-items.result.now c.new-settled.ensures.items

pub settle_terms-loop-term-preserved : goal.settle_terms-loop-term-preserved
settle_terms-loop-term-preserved g t c =
    one_made put_term (make_term (g.K.Kinds.kinds c.args.kinds.now)) [] _ _ _ _ _ _ _ c.loop-term-test.true c.term-item.is c.in-Ok-add.ensures (λ rest. ap (λ u. u ∷ rest) c.in-Ok.ensures) c.loop-term.invariant

pub settle_terms-returns : goal.settle_terms-returns
settle_terms-returns g t c =
    let kind = g.K.Kinds.kinds c.args.kinds.now in
    sym (terms_onto (make_term kind) c.loop-term.settled.items)
    ∙ (all_made put_term (make_term kind) [] c.loop-term.settled.items c.deref-term-items.result.now c.loop-term.term-index _ c.loop-term-test.false c.loop-term.invariant
    ∙ ap (λ l. map (settled kind) (map shape l)) c.deref-term-items.ensures.value)

pub settle_params-returns : goal.settle_params-returns
settle_params-returns g t c =
    let kind = g.K.Kinds.kinds c.args.kinds.now in
    let w = c.in-Ok in
    let lines = of_made _ _ _ w.ensures.0 c.copy_numbers-lines.ensures in
    let terms = of_made _ _ _ w.ensures.1 c.settle_terms.ensures in
    (λ i. terms_in (terms i) (lines i)) ∙ terms_settled kind (map shape c.args.params.now.terms.items) c.args.params.now.lines.items

use Rattle.std.proofs.Common.{◌≡◌, [], false, OnOk, inr, ap, sym, subst, ◌∙◌}
use Rattle.std.proofs.lemmas.Result.{on_ok_weaker}
use Rattle.go_term_core.specs.Terms.{Term, NoType}
use Rattle.go_term_core.specs.Shapes.{shape, line_shape, line_with, line_shapes, line_at}
use Rattle.go_term_core.proofs.SameLists.{found, missing}
use Rattle.go_term_core.proofs.TermShapes.{shape_struct}
use Rattle.go_type_core.specs.Built.{direct_keys}
use Rattle.go_type_core.specs.mirrors.Edges.{HasAlso, uses_from}
use Rattle.go_type_core.proofs.OnceEach.{also_nothing, also_pushed, fields_step, fields_whole}
use Rattle.go_type_core.proofs.looped.+uses.Goals as goal

pub push_uses-returns-in-Struct : goal.push_uses-returns-in-Struct
push_uses-returns-in-Struct t c =
    let w = c.in-Struct in
    let e = ap shape w.is ∙ shape_struct w.field-0 w.fields w.lines in
    subst (λ (x : Term). OnOk c.push_fields.result (HasAlso c.args.edges.now.items (uses_from c.args.keys.now c.args.from (direct_keys x)) c.push_fields.new.edges.items)) (sym e) c.push_fields.ensures

pub push_fields-loop-field-preserved : goal.push_fields-loop-field-preserved
push_fields-loop-field-preserved t c = fields_step c.args.keys.now c.args.from (line_shapes c.args.lines.now.items) c.args.edges.now.items c.loop-field.edges.items c.push_line.new.edges.items c.loop-field.met c.deref-field-items.result.now c.loop-field.field-index c.field-item.result c.loop-field-test.true c.field-item.is c.loop-field.invariant c.in_ok-push_line.ensures

pub push_fields-returns : goal.push_fields-returns
push_fields-returns t c = fields_whole c.args.keys.now c.args.from (line_shapes c.args.lines.now.items) c.args.edges.now.items c.loop-field.edges.items c.loop-field.met c.deref-field-items.result.now c.args.fields.now.items c.loop-field.field-index c.deref-field-items.ensures.value c.loop-field-test.false c.loop-field.invariant

pub push_line-returns-in-Some : goal.push_line-returns-in-Some
push_line-returns-in-Some t c =
    let w = c.in-Some in
    let at : line_at (line_shapes c.args.lines.now.items) c.args.number ≡ line_shape w.line.now = found line_shape (line_with false NoType []) c.deref.result.now c.args.lines.now.items c.args.number w.line c.deref.ensures.value w.ensures.lookup in
    on_ok_weaker c.push_uses.result (λ h. inr (subst (λ l. HasAlso c.args.edges.now.items (uses_from c.args.keys.now c.args.from (direct_keys l.term)) c.push_uses.new.edges.items) (sym at) h)) c.push_uses.ensures

pub push_line-returns-in-None : goal.push_line-returns-in-None
push_line-returns-in-None t c =
    let at : line_at (line_shapes c.args.lines.now.items) c.args.number ≡ line_with false NoType [] = missing line_shape (line_with false NoType []) c.deref.result.now c.args.lines.now.items c.args.number c.deref.ensures.value c.in-None.ensures.lookup in
    inr (subst (λ l. HasAlso c.args.edges.now.items (uses_from c.args.keys.now c.args.from (direct_keys l.term)) c.args.edges.now.items) (sym at) (also_nothing c.args.edges.now.items))

pub push_uses-returns-in-Defined : goal.push_uses-returns-in-Defined
push_uses-returns-in-Defined t c =
    let w = c.in-Defined in
    let e = ap shape w.is in
    on_ok_weaker c.push_use.result (λ is. subst (λ (x : Term). HasAlso c.args.edges.now.items (uses_from c.args.keys.now c.args.from (direct_keys x)) c.push_use.new.edges.items) (sym e) (also_pushed _ _ _ is)) c.push_use.ensures

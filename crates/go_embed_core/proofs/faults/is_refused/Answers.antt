use Rattle.std.proofs.Common.{[], false, not, ◌&&◌, sym, ap, ◌∙◌}
use Rattle.go_term_core.specs.Terms.{NoType}
use Rattle.go_term_core.specs.Shapes.{Line, line_shape, line_with}
use Rattle.go_term_core.proofs.SameLists.{found, missing}
use Rattle.go_term_core.specs.settling.Settled.{can_be_embedded}
use Rattle.go_embed_core.proofs.faults.is_refused.Goals as goal

pub returns-in-Some : goal.returns-in-Some
returns-in-Some g c =
    let w = c.in-Some in
    c.is_line_refused.ensures ∙ ap (λ (l : Line). l.embedded && not (can_be_embedded (g.K.Kinds.kinds c.args.kinds.now) l.term)) (sym (found line_shape (line_with false NoType []) c.deref.result.now c.args.lines.now.items c.args.number w.line c.deref.ensures.value w.ensures.lookup))

pub returns-in-None : goal.returns-in-None
returns-in-None g c =
    ap (λ (l : Line). l.embedded && not (can_be_embedded (g.K.Kinds.kinds c.args.kinds.now) l.term)) (sym (missing line_shape (line_with false NoType []) c.deref.result.now c.args.lines.now.items c.args.number c.deref.ensures.value c.in-None.ensures.lookup))

use Rattle.std.proofs.Common.{[], false, sym, ap, ◌∙◌}
use Rattle.go_term_core.specs.Terms.{NoType}
use Rattle.go_term_core.specs.Shapes.{Line, line_shape, line_with}
use Rattle.go_term_core.proofs.SameLists.{found, missing}
use Rattle.go_embed_core.specs.Faults.{first_place}
use Rattle.go_embed_core.proofs.faults.first_of_line.Goals as goal

pub returns-in-Some : goal.returns-in-Some
returns-in-Some c =
    let w = c.in-Some in
    c.first_place.ensures ∙ ap (λ (l : Line). first_place l.term) (sym (found line_shape (line_with false NoType []) c.deref.result.now c.args.lines.now.items c.args.number w.line c.deref.ensures.value w.ensures.lookup))

pub returns-in-None : goal.returns-in-None
returns-in-None c = ap (λ (l : Line). first_place l.term) (sym (missing line_shape (line_with false NoType []) c.deref.result.now c.args.lines.now.items c.args.number c.deref.ensures.value c.in-None.ensures.lookup))

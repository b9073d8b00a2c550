use Rattle.std.proofs.Common.{ap, sym, ◌∙◌}
use Rattle.go_term_core.specs.Shapes.{shape, fields_in, line_shapes}
use Rattle.go_term_core.proofs.TermShapes.{shape_struct}
use Rattle.go_env_core.specs.Fields.{fields_seen, term_seen}
use Rattle.go_env_core.specs.mirrors.Seen.{hider_shown}
use Rattle.go_env_core.proofs.fields.term_fields.Goals as goal

pub returns-in-Struct : goal.returns-in-Struct
returns-in-Struct c s =
    let w = c.in-Struct in
    let o = hider_shown c.args.hider in
    (λ i. fields_seen s o w.home (fields_in (line_shapes (c.as_slice-in-Struct.ensures.value i)) (c.as_slice.ensures.value i)))
    ∙ ap (term_seen s o) (sym (ap shape w.is ∙ shape_struct w.home w.fields w.lines))

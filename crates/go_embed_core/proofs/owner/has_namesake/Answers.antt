use Rattle.std.proofs.Common.{ap, sym, ◌∙◌}
use Rattle.go_term_core.specs.Shapes.{shape}
use Rattle.go_term_core.proofs.TermShapes.{shape_struct}
use Rattle.go_embed_core.specs.mirrors.Edges.{hidden_in}
use Rattle.go_embed_core.proofs.owner.has_namesake.Goals as goal

pub returns-in-Struct : goal.returns-in-Struct
returns-in-Struct c =
    let w = c.in-Struct in
    let d = c.args.defined.now in
    c.has_own_method.ensures ∙ ap (hidden_in d.key.path d.methods c.args.name.now) (sym (ap shape w.is ∙ shape_struct w.from w.field-1 w.field-2))

use Rattle.std.proofs.Common.{sym, ap, ◌∙◌}
use Rattle.go_term_core.specs.Shapes.{shape, fields_in, line_shapes}
use Rattle.go_term_core.proofs.TermShapes.{shape_struct}
use Rattle.go_table_core.specs.Methods.{term_fields}
use Rattle.go_table_core.proofs.fields.term_fields.Goals as goal

pub returns-in-Struct : goal.returns-in-Struct
returns-in-Struct c =
    let w = c.in-Struct in
    (λ i. fields_in (line_shapes (c.as_slice-in-Struct.ensures.value i)) (c.as_slice.ensures.value i))
    ∙ sym (ap (λ t. term_fields (shape t)) w.is ∙ ap term_fields (shape_struct w.field-0 w.fields w.lines))

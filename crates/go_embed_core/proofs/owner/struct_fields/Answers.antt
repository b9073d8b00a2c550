use Rattle.std.proofs.Common.{ap, sym, ◌∙◌}
use Rattle.go_term_core.specs.Shapes.{shape, fields_in, line_shapes}
use Rattle.go_term_core.proofs.TermShapes.{shape_struct}
use Rattle.go_type_core.specs.table_core.Methods.{term_fields}
use Rattle.go_embed_core.proofs.owner.struct_fields.Goals as goal

pub returns-in-Struct : goal.returns-in-Struct
returns-in-Struct c =
    let w = c.in-Struct in
    (λ i. fields_in (line_shapes (c.as_slice-in-Struct.ensures.value i)) (c.as_slice.ensures.value i)) ∙ ap term_fields (sym (ap shape w.is ∙ shape_struct w.field-0 w.fields w.lines))

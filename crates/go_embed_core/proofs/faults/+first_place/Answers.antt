use Rattle.std.proofs.Common.{sym, ap, ◌∙◌}
use Rattle.go_term_core.specs.Shapes.{line_shapes, shape}
use Rattle.go_term_core.proofs.TermShapes.{shape_struct, shape_interface}
use Rattle.go_embed_core.specs.Faults.{first_place}
use Rattle.go_embed_core.proofs.faults.+first_place.Goals as goal

pub returns-in-Struct : goal.returns-in-Struct
returns-in-Struct t c = c.first_field.ensures (line_shapes c.in-Struct.field-2.items) ∙ sym (ap first_place (ap shape c.in-Struct.is ∙ shape_struct c.in-Struct.field-0 c.in-Struct.fields c.in-Struct.field-2))

pub returns-in-Interface : goal.returns-in-Interface
returns-in-Interface t c = c.first_method.ensures ∙ sym (ap first_place (ap shape c.in-Interface.is ∙ shape_interface c.in-Interface.field-0 c.in-Interface.methods))

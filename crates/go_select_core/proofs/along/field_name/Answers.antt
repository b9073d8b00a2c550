use Rattle.std.proofs.Common.{ap, sym, ◌∙◌}
use Rattle.std.specs.Prelude.{option_map, slice_get}
use Rattle.go_term_core.specs.Shapes.{line_shapes, shape}
use Rattle.go_term_core.specs.declared.term.Field.{Field}
use Rattle.go_term_core.proofs.TermShapes.{shape_struct}
use Rattle.std.proofs.Common.{List}
use Rattle.go_select_core.specs.PathNames.{term_field_name}
use Rattle.go_select_core.proofs.AlongPaths.{name_is}
use Rattle.go_select_core.proofs.along.field_name.Goals as goal

pub returns-in-Struct : goal.returns-in-Struct
returns-in-Struct c =
    let w = c.in-Struct in
    c.name_at.ensures
    ∙ (ap (λ (l : List Field). option_map (λ f. f.name) (slice_get l c.args.at)) c.deref.ensures.value
    ∙ (name_is (line_shapes w.field-2.items) w.fields.items c.args.at ∙ ap (λ t. term_field_name t c.args.at) (sym (ap shape w.is ∙ shape_struct w.field-0 w.fields w.field-2))))

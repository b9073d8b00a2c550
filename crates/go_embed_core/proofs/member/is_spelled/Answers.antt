use Rattle.std.proofs.Common.{ap, sym, ◌∙◌}
use Rattle.std.specs.List.{list_any}
use Rattle.std.specs.Str.{bytes_eq}
use Rattle.go_term_core.specs.Shapes.{line_shapes, shape}
use Rattle.go_term_core.proofs.TermShapes.{shape_struct, shape_interface}
use Rattle.go_embed_core.specs.Owners.{term_found, is_spelled_in, nobody}
use Rattle.go_embed_core.proofs.Counting.{fields_spelled, interface_spelled}
use Rattle.go_embed_core.proofs.member.is_spelled.Goals as goal

pub returns-in-Struct : goal.returns-in-Struct
returns-in-Struct c =
    let w = c.in-Struct in
    c.is_field_spelled.ensures ∙ (ap (list_any (λ f. bytes_eq f.name c.args.name.now)) c.deref.ensures.value ∙ (fields_spelled (line_shapes w.field-2.items) w.field-0 c.args.name.now w.fields.items ∙ ap (λ t. is_spelled_in (term_found nobody t) c.args.name.now) (sym (ap shape w.is ∙ shape_struct w.field-0 w.fields w.field-2))))

pub returns-in-Interface : goal.returns-in-Interface
returns-in-Interface c =
    let w = c.in-Interface in
    c.is_interface_spelled.ensures ∙ (ap (list_any (λ m. bytes_eq m.name c.args.name.now)) c.deref-in-Interface.ensures.value ∙ (interface_spelled w.field-0 c.args.name.now w.methods.items ∙ ap (λ t. is_spelled_in (term_found nobody t) c.args.name.now) (sym (ap shape w.is ∙ shape_interface w.field-0 w.methods))))

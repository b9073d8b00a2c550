use Rattle.std.proofs.Common.{map, ap, sym, subst, ◌∙◌}
use Rattle.std.specs.Prelude.{IfOk, IfSome}
use Rattle.go_term_core.specs.Shapes.{shape, line_shapes}
use Rattle.go_term_core.proofs.TermShapes.{shape_struct, shape_interface}
use Rattle.go_collections_core.specs.spelling_index.Spelled.{AreSpelled, places_of}
use Rattle.go_table_core.specs.MemberNames.{term_names}
use Rattle.go_table_core.proofs.Listing.{fields_are, methods_are}
use Rattle.go_table_core.proofs.indexed.term_index.Goals as goal

pub returns-in-Struct : goal.returns-in-Struct
returns-in-Struct c =
    let w = c.in-Struct in
    subst (λ names. IfOk c.field_index.result (λ index. IfSome index (λ s. AreSpelled (places_of s) names)))
    (ap (map (λ f. f.name)) c.deref.ensures.value ∙ (fields_are (line_shapes w.field-2.items) w.fields.items ∙ ap term_names (sym (ap shape w.is ∙ shape_struct w.field-0 w.fields w.field-2))))
    c.field_index.ensures

pub returns-in-Interface : goal.returns-in-Interface
returns-in-Interface c =
    let w = c.in-Interface in
    subst (λ names. IfOk c.interface_index.result (λ index. IfSome index (λ s. AreSpelled (places_of s) names)))
    (ap (map (λ m. m.name)) c.deref-in-Interface.ensures.value ∙ (methods_are w.methods.items ∙ ap term_names (sym (ap shape w.is ∙ shape_interface w.field-0 w.methods))))
    c.interface_index.ensures

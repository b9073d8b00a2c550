use Rattle.std.proofs.Common.{map, ap, sym, subst, ◌∙◌}
use Rattle.go_term_core.specs.Shapes.{line_shapes, shape}
use Rattle.go_term_core.proofs.TermShapes.{shape_struct, shape_interface}
use Rattle.go_collections_core.specs.spelling_index.Spelled.{AreSpelled, places_of}
use Rattle.go_type_core.specs.table_core.MemberNames.{term_names}
use Rattle.go_type_core.specs.table_core.Listing.{fields_are, methods_are}
use Rattle.go_embed_core.specs.Owners.{term_found, nobody}
use Rattle.go_embed_core.specs.mirrors.Tallies.{tallies, tally_of, field_tally, interface_tally}
use Rattle.go_embed_core.proofs.Counting.{fields_named, interface_named}
use Rattle.go_embed_core.proofs.indexed.indexed_hits.Goals as goal

pub indexed_fields-requires : goal.indexed_fields-requires
indexed_fields-requires c =
    let w = c.in-Struct in
    subst (AreSpelled (places_of c.args.index.now))
    (ap term_names (ap shape w.is ∙ shape_struct w.path w.fields w.lines) ∙ (sym (fields_are (line_shapes w.lines.items) w.fields.items) ∙ ap (map (λ f. f.name)) (sym c.deref.ensures.value)))
    c.requires

pub indexed_interface-requires : goal.indexed_interface-requires
indexed_interface-requires c =
    let w = c.in-Interface in
    subst (AreSpelled (places_of c.args.index.now))
    (ap term_names (ap shape w.is ∙ shape_interface w.path w.methods) ∙ (sym (methods_are w.methods.items) ∙ ap (map (λ m. m.name)) (sym c.deref-in-Interface.ensures.value)))
    c.requires

pub returns-in-Struct : goal.returns-in-Struct
returns-in-Struct c =
    let w = c.in-Struct in
    c.indexed_fields.ensures
    ∙ (λ i. tallies (field_tally (line_shapes (c.deref-in-Struct.ensures.value i)) w.path c.args.name.now c.args.from.now) (c.deref.ensures.value i))
    ∙ fields_named (line_shapes w.lines.items) w.path c.args.name.now c.args.from.now w.fields.items
    ∙ ap (λ t. tallies (tally_of c.args.name.now c.args.from.now) (term_found nobody t)) (sym (ap shape w.is ∙ shape_struct w.path w.fields w.lines))

pub returns-in-Interface : goal.returns-in-Interface
returns-in-Interface c =
    let w = c.in-Interface in
    c.indexed_interface.ensures ∙ (ap (tallies (interface_tally w.path c.args.name.now c.args.from.now)) c.deref-in-Interface.ensures.value ∙ (interface_named w.path c.args.name.now c.args.from.now w.methods.items ∙ ap (λ t. tallies (tally_of c.args.name.now c.args.from.now) (term_found nobody t)) (sym (ap shape w.is ∙ shape_interface w.path w.methods))))

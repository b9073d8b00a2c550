use Rattle.std.proofs.Common.{ap, sym, ◌∙◌}
use Rattle.go_term_core.specs.Shapes.{line_shapes, shape}
use Rattle.go_term_core.proofs.TermShapes.{shape_struct, shape_interface}
use Rattle.go_embed_core.specs.Owners.{term_found, nobody}
use Rattle.go_embed_core.specs.mirrors.Tallies.{tallies, tally_of, field_tally, interface_tally}
use Rattle.go_embed_core.proofs.Counting.{fields_named, interface_named}
use Rattle.go_embed_core.proofs.member.term_hits.Goals as goal

pub returns-in-Struct : goal.returns-in-Struct
returns-in-Struct c =
    let w = c.in-Struct in
    c.field_hits.ensures
    ∙ (λ i. tallies (field_tally (line_shapes (c.deref-in-Struct.ensures.value i)) w.path c.args.name.now c.args.from.now) (c.deref.ensures.value i))
    ∙ fields_named (line_shapes w.lines.items) w.path c.args.name.now c.args.from.now w.fields.items
    ∙ ap (λ t. tallies (tally_of c.args.name.now c.args.from.now) (term_found nobody t)) (sym (ap shape w.is ∙ shape_struct w.path w.fields w.lines))

pub returns-in-Interface : goal.returns-in-Interface
returns-in-Interface c =
    let w = c.in-Interface in
    c.interface_hits.ensures ∙ (ap (tallies (interface_tally w.path c.args.name.now c.args.from.now)) c.deref-in-Interface.ensures.value ∙ (interface_named w.path c.args.name.now c.args.from.now w.methods.items ∙ ap (λ t. tallies (tally_of c.args.name.now c.args.from.now) (term_found nobody t)) (sym (ap shape w.is ∙ shape_interface w.path w.methods))))

use Rattle.std.proofs.Common.{◌++◌, map, ap, sym, ◌∙◌}
use Rattle.std.proofs.lemmas.Result.{on_ok_weaker}
use Rattle.go_term_core.specs.Terms.{StructOf}
use Rattle.go_term_core.specs.Shapes.{shape, fields_in, line_shapes, method_shapes}
use Rattle.go_term_core.proofs.TermShapes.{shape_struct, shape_interface}
use Rattle.go_embed_core.specs.Owners.{fields_found, methods_found, term_found}
use Rattle.go_embed_core.specs.OwnersShown.{owner_shown, named_shown}
use Rattle.go_embed_core.proofs.owner.add_term.Goals as goal

pub add_fields-requires : goal.add_fields-requires
add_fields-requires c =
    let w = c.in-Struct in
    sym c.requires ∙ ((ap shape w.is ∙ shape_struct w.path w.fields w.lines) ∙ sym (λ i. StructOf w.path (fields_in (line_shapes (c.deref-in-Struct.ensures.value i)) (c.deref.ensures.value i))))

pub returns-in-Struct : goal.returns-in-Struct
returns-in-Struct c =
    let w = c.in-Struct in
    let o = owner_shown c.args.owner.now in
    let first = map named_shown c.args.members.now.items in
    on_ok_weaker c.add_fields.result
    (λ e. e ∙ ((λ i. first ++ fields_found o w.path (fields_in (line_shapes (c.deref-in-Struct.ensures.value i)) (c.deref.ensures.value i))) ∙ ap (λ u. first ++ term_found o u) (sym (ap shape w.is ∙ shape_struct w.path w.fields w.lines))))
    c.add_fields.ensures

pub returns-in-Interface : goal.returns-in-Interface
returns-in-Interface c =
    let w = c.in-Interface in
    let o = owner_shown c.args.owner.now in
    let first = map named_shown c.args.members.now.items in
    on_ok_weaker c.add_interface.result
    (λ e. e ∙ (ap (λ l. first ++ methods_found w.path (method_shapes l)) c.deref-in-Interface.ensures.value ∙ ap (λ u. first ++ term_found o u) (sym (ap shape w.is ∙ shape_interface w.path w.methods))))
    c.add_interface.ensures

use Rattle.std.proofs.Common.{◌≡◌, map, ap, sym, subst, ◌∙◌}
use Rattle.std.specs.Prelude.{IfSome}
use Rattle.go_term_core.specs.Shapes.{shape, line_shapes, fields_in}
use Rattle.go_term_core.specs.Terms.{StructOf}
use Rattle.go_term_core.proofs.TermShapes.{shape_struct}
use Rattle.go_collections_core.specs.spelling_index.Spelled.{AreSpelled, places_of}
use Rattle.go_select_core.specs.embed_core.OwnersShown.{entry_owner}
use Rattle.go_env_core.proofs.ByName.{struct_names}
use Rattle.go_env_core.proofs.field_index.defined_index.Goals as goal

pub returns-in-Struct : goal.returns-in-Struct
returns-in-Struct c s =
    let w = c.in-Struct in
    let d = c.args.defined.now in
    let is : d.term ≡ StructOf w.field-0 (fields_in (line_shapes w.field-2.items) w.field-1.items) = sym c.underlying.ensures ∙ (ap shape w.is ∙ shape_struct w.field-0 w.field-1 w.field-2) in
    subst (λ names. IfSome c.member_spellings.result (λ index. AreSpelled (places_of index.now) names))
    (struct_names s (entry_owner d) w.field-0 (fields_in (line_shapes w.field-2.items) w.field-1.items) d.term is (c.hides_fields.ensures c.if-hides_fields.false))
    c.member_spellings.ensures

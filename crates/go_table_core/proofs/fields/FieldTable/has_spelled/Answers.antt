use Rattle.std.proofs.Common.{is_some, ap, subst, ◌∙◌}
use Rattle.go_collections_core.specs.spelling_index.Spelled.{places_of}
use Rattle.go_term_core.specs.Shapes.{shape}
use Rattle.go_table_core.specs.Methods.{field_spelled, term_fields}
use Rattle.go_table_core.specs.mirrors.Ordered.{FindsFields, IsFieldIndex}
use Rattle.go_table_core.specs.mirrors.Spots.{HasPlaces, named_places}
use Rattle.go_table_core.proofs.Ordering.{indexed_spelled}
use Rattle.go_table_core.proofs.Spelled.{in_names}
use Rattle.go_table_core.proofs.fields.FieldTable.has_spelled.Goals as goal

pub returns-in-Made : goal.returns-in-Made
returns-in-Made c =
    let has : HasPlaces (named_places c.in-Made.places) (term_fields (shape c.self.inside.underlying.now)) = subst (λ p. FindsFields p (term_fields (shape c.self.inside.underlying.now))) c.in-Made.is c.self.invariant in
    c.contains_key.ensures
    ∙ (ap is_some (in_names c.args.name.now c.in-Made.places.entries)
    ∙ (has.spelled c.args.name.now ∙ ap (λ t. field_spelled (term_fields t) c.args.name.now) c.self.view_is))

pub returns-in-Indexed : goal.returns-in-Indexed
returns-in-Indexed c =
    let is : IsFieldIndex (places_of c.in-Indexed.index.now) (term_fields (shape c.self.inside.underlying.now)) = subst (λ p. FindsFields p (term_fields (shape c.self.inside.underlying.now))) c.in-Indexed.is c.self.invariant in
    c.is_some.ensures
    ∙ (ap is_some c.find.ensures
    ∙ (indexed_spelled (places_of c.in-Indexed.index.now) (term_fields (shape c.self.inside.underlying.now)) c.args.name.now is
    ∙ ap (λ t. field_spelled (term_fields t) c.args.name.now) c.self.view_is))

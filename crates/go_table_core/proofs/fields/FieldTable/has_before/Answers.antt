use Rattle.std.proofs.Common.{ap, subst, ◌∙◌}
use Rattle.go_collections_core.specs.spelling_index.Spelled.{places_of}
use Rattle.go_term_core.specs.Shapes.{shape, line_shapes}
use Rattle.go_table_core.specs.Methods.{term_fields}
use Rattle.go_table_core.specs.mirrors.Ordered.{spelled_before, FindsFields, IsFieldIndex}
use Rattle.go_table_core.specs.mirrors.Spots.{named_before, named_places, HasPlaces}
use Rattle.go_table_core.proofs.Ordering.{indexed_before}
use Rattle.go_table_core.proofs.fields.FieldTable.has_before.Goals as goal

pub returns-in-Made : goal.returns-in-Made
returns-in-Made c =
    let has : HasPlaces (named_places c.in-Made.places) (term_fields (shape c.self.inside.underlying.now)) = subst (λ p. FindsFields p (term_fields (shape c.self.inside.underlying.now))) c.in-Made.is c.self.invariant in
    c.earliest_is_before.ensures ∙ (has.before c.args.name.now c.args.place ∙ ap (λ t. named_before (term_fields t) c.args.name.now c.args.place) c.self.view_is)

pub returns-in-Indexed : goal.returns-in-Indexed
returns-in-Indexed c =
    let is : IsFieldIndex (places_of c.in-Indexed.index.now) (term_fields (shape c.self.inside.underlying.now)) = subst (λ p. FindsFields p (term_fields (shape c.self.inside.underlying.now))) c.in-Indexed.is c.self.invariant in
    c.first_is_before.ensures (line_shapes c.term_fields.result.lines.now)
    ∙ (ap (λ fs. spelled_before fs c.find.result c.args.place) c.term_fields.ensures
    ∙ (indexed_before (places_of c.in-Indexed.index.now) (term_fields (shape c.self.inside.underlying.now)) c.args.name.now c.args.place c.find.result is c.find.ensures
    ∙ ap (λ t. named_before (term_fields t) c.args.name.now c.args.place) c.self.view_is))

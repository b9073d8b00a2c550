use Rattle.std.proofs.Common.{sym, ap, ◌∙◌, Some}
use Rattle.go_term_core.specs.Shapes.{method_shapes}
use Rattle.go_term_core.specs.Terms.{InterfaceOf, NoMethod}
use Rattle.go_term_core.proofs.TermShapes.{shape_interface}
use Rattle.go_typexpr_core.specs.entry.Meanings.{type_of_universe}
use Rattle.go_typexpr_core.proofs.entry.file_names.universe_type.Goals as goal

pub returns-in_ok-share-in-Some-Any : goal.returns-in_ok-share-in-Some-Any
returns-in_ok-share-in-Some-Any c =
    let path = c.in_ok-share-in-Some-Any.field-0 in
    shape_interface path c.new.result
    ∙ (ap (λ ms. InterfaceOf path (method_shapes ms)) c.new.ensures.items
    ∙ (ap (λ p. InterfaceOf p NoMethod) c.in_ok-share-in-Some-Any.ensures
    ∙ ap (type_of_universe c.args.path.now) (ap Some (sym c.in-Some-Any.field-0-is) ∙ c.in-Some-Any.ensures)))

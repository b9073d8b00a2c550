use Rattle.std.proofs.Common.{sym, ap, ◌∙◌}
use Rattle.go_universe_core.specs.declared.Predeclared.TheVariants as universe
use Rattle.go_term_core.specs.Shapes.{method_shapes}
use Rattle.go_term_core.specs.Terms.{InterfaceOf, NoMethod}
use Rattle.go_term_core.proofs.TermShapes.{shape_interface}
use Rattle.go_package_core.specs.env_core.Found.{found_type}
use Rattle.go_type_doc_core.proofs.naming.any_type.Goals as goal

pub returns-in-Ok-clause-ok : goal.returns-in-Ok-clause-ok
returns-in-Ok-clause-ok c =
    ap (found_type universe.Any)
    (sym (shape_interface c.in-Ok.path c.new.result ∙ (ap (λ ms. InterfaceOf c.in-Ok.path (method_shapes ms)) c.new.ensures.items ∙ ap (λ p. InterfaceOf p NoMethod) c.in-Ok.ensures)))

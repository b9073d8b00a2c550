use Rattle.std.proofs.Common.{refl, ap, ◌∙◌}
use Rattle.go_term_core.specs.Terms.{InterfaceOf, NoMethod}
use Rattle.go_term_core.specs.Shapes.{method_shapes}
use Rattle.go_term_core.proofs.TermShapes.{shape_interface}
use Rattle.go_handle_core.proofs.home.Home.new.Goals as goal

pub invariant_of-result : goal.invariant_of-result
invariant_of-result c =
    let path = c.in_ok-any_path.any_path in
    record {
      int_is = refl;
      text_is = refl;
      boolean_is = refl;
      any_is = shape_interface path c.new.result ∙ (ap (λ ms. InterfaceOf path (method_shapes ms)) c.new.ensures.items ∙ ap (λ p. InterfaceOf p NoMethod) c.in_ok-any_path.ensures);
      error_is = refl;
      of_error_is = c.in_ok-error_signature.ensures;
    }

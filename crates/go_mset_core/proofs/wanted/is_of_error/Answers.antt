use Rattle.go_term_core.specs.Shapes.{sign_of}
use Rattle.go_mset_core.proofs.Answering.{of_error}
use Rattle.go_mset_core.proofs.wanted.is_of_error.Goals as goal

pub returns : goal.returns
returns c =
    let same = of_error (sign_of c.args.signature.now) in
    ((λ h. same.0 (c.has_types_of_error.ensures.0 h)), (λ e. c.has_types_of_error.ensures.1 (same.1 e)))

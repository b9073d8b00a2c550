use Rattle.std.proofs.Common.{ap, arith, ◌∙◌, sym}
use Rattle.go_term_core.specs.Shapes.{shape}
use Rattle.go_term_core.specs.Terms.{PointerTo}
use Rattle.go_handle_core.proofs.Starred.{pointer_right}
use Rattle.go_handle_core.proofs.identity.+plain_and_starred.Goals as goal

pub returns-in-Pointer : goal.returns-in-Pointer
returns-in-Pointer t c =
    let a = c.args in
    c.plain_and_starred.ensures ∙ pointer_right a.tags a.stars (shape a.b.now) (shape a.a.now) (shape c.deref.result.now) (omega (arith, c.if-stars-eq0.false)) (ap shape c.in-Pointer.is ∙ ap (λ x. PointerTo (shape x)) (sym c.deref.ensures))

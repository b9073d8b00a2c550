use Rattle.std.proofs.Common.{ap, arith, ◌∙◌, sym}
use Rattle.go_term_core.specs.Shapes.{shape}
use Rattle.go_term_core.specs.Terms.{PointerTo}
use Rattle.go_handle_core.proofs.Starred.{pointer_left}
use Rattle.go_handle_core.proofs.identity.+starred_and_plain.Goals as goal

pub returns-in-Pointer : goal.returns-in-Pointer
returns-in-Pointer t c =
    let a = c.args in
    c.starred_and_plain.ensures ∙ pointer_left a.tags a.stars (shape a.a.now) (shape a.b.now) (shape c.deref.result.now) (omega (arith, c.if-stars-eq0.false)) (ap shape c.in-Pointer.is ∙ ap (λ x. PointerTo (shape x)) (sym c.deref.ensures))

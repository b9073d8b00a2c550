use Rattle.std.proofs.Common.{ap, arith, ◌∙◌, sym}
use Rattle.go_term_core.specs.Shapes.{shape}
use Rattle.go_term_core.specs.Terms.{PointerTo}
use Rattle.go_report_core.proofs.AnswerSharing.{plain_held, pointer_held}
use Rattle.go_report_core.proofs.answer.shared.+is_starred.Goals as goal

pub returns-then-stars-eq0 : goal.returns-then-stars-eq0
returns-then-stars-eq0 t c =
    let a = c.args in
    plain_held c.equal_term.result a.stars (shape a.held.now) (shape a.term.now) c.if-stars-eq0.true c.equal_term.ensures

pub returns-in-Pointer : goal.returns-in-Pointer
returns-in-Pointer t c =
    let a = c.args in
    pointer_held c.is_starred.result a.stars (shape c.deref.result.now) (shape a.term.now) (shape a.held.now) (omega (arith, c.if-stars-eq0.false)) (ap shape c.in-Pointer.is ∙ ap (λ x. PointerTo (shape x)) (sym c.deref.ensures)) c.is_starred.ensures

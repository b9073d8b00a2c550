use Rattle.std.proofs.Common.{arith, ◌∙◌}
use Rattle.go_term_core.specs.Shapes.{shape}
use Rattle.go_handle_core.specs.Stars.{starred}
use Rattle.go_handle_core.proofs.Starred.{starred_first, starred_last, no_stars}
use Rattle.go_handle_core.proofs.identity.same_starred_under.Goals as goal

pub returns-then-m-gt0 : goal.returns-then-m-gt0
returns-then-m-gt0 c =
    let a = c.args in
    c.same_starred.ensures ∙ starred_first a.tags a.m (shape a.a.now) (starred a.n (shape a.b.now)) (omega (arith, c.if-m-gt0.true))

pub returns-then-n-gt0 : goal.returns-then-n-gt0
returns-then-n-gt0 c =
    let a = c.args in
    c.same_starred-then-n-gt0.ensures ∙ starred_last a.tags a.n (starred a.m (shape a.a.now)) (shape a.b.now) (omega (arith, c.if-n-gt0.true))

pub returns : goal.returns
returns c =
    let a = c.args in
    c.same_under.ensures ∙ no_stars a.tags a.m a.n (shape a.a.now) (shape a.b.now) (omega (arith, c.if-m-gt0.false)) (omega (arith, c.if-n-gt0.false))

use Rattle.std.proofs.Common.{arith, ◌∙◌}
use Rattle.go_term_core.specs.Shapes.{shape}
use Rattle.go_handle_core.proofs.Starred.{level_left, level_right}
use Rattle.go_handle_core.proofs.identity.same_starred.Goals as goal

pub returns-then-m-n : goal.returns-then-m-n
returns-then-m-n c =
    let a = c.args in
    c.plain_and_starred.ensures ∙ level_right a.tags a.m a.n (shape a.a.now) (shape a.b.now) (omega (arith, c.if-m-n.true))

pub returns : goal.returns
returns c =
    let a = c.args in
    c.starred_and_plain.ensures ∙ level_left a.tags a.m a.n (shape a.a.now) (shape a.b.now) (omega (arith, c.if-m-n.false))

use Rattle.std.proofs.Common.{sym, ◌∙◌}
use Rattle.go_term_core.specs.Shapes.{shape}
use Rattle.go_handle_core.proofs.Telling.{two_stars, implements_nothing}
use Rattle.go_handle_core.proofs.implementing.is_implementing.Goals as goal

pub returns : goal.returns
returns c =
    let x = c.value.inside in
    let two = two_stars x.stars (shape x.term.now) c.if-value-eq0.false c.if-value-eq1.false in
    c.asks_nothing.ensures
    ∙ implements_nothing c.args.table.now c.args.value.now two.0 (shape c.args.interface.now) (shape c.underlying.result.now) (sym c.value.view_is ∙ two.1) c.underlying.ensures

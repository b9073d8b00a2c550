use Rattle.go_denote_core.proofs.CompositeTurns.{visible_stops, visible_goes_on}
use Rattle.go_denote_core.proofs.composite.literals.all_visible.Goals as goal

pub returns-then-not-field_at : goal.returns-then-not-field_at
returns-then-not-field_at g c =
    visible_stops ((g.E.Literals.literals c.args.env.now).fields c.args.t.now) c.loop-at.at c.field_at.result c.field_at.ensures c.loop-at.invariant c.if-not-field_at.true

pub loop-at-preserved : goal.loop-at-preserved
loop-at-preserved g c =
    visible_goes_on ((g.E.Literals.literals c.args.env.now).fields c.args.t.now) c.loop-at.at c.field_at.result c.field_at.ensures c.loop-at.invariant c.if-not-field_at.false

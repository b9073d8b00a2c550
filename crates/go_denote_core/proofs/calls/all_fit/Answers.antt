use Rattle.go_denote_core.specs.Look.{look_of}
use Rattle.go_denote_core.proofs.Turns.{fit_stops, fit_goes_on}
use Rattle.go_denote_core.proofs.calls.all_fit.Goals as goal

pub returns-then-not-branch : goal.returns-then-not-branch
returns-then-not-branch g c =
    fit_stops (look_of (g.E.TypeLooks.types c.args.env.now) (g.E.Names.names c.args.env.now)) c.args.arguments.now ((g.E.Names.names c.args.env.now).params c.args.signature.now) c.loop-at.at c.index-arguments-at.result c.param_at.result c.in_ok-fits.field-0
    c.loop-at-test.true c.index-arguments-at.is c.param_at.ensures c.in_ok-fits.ensures c.loop-at.invariant c.if-not-branch.true

pub loop-at-preserved : goal.loop-at-preserved
loop-at-preserved g c =
    fit_goes_on (look_of (g.E.TypeLooks.types c.args.env.now) (g.E.Names.names c.args.env.now)) c.args.arguments.now ((g.E.Names.names c.args.env.now).params c.args.signature.now) c.loop-at.at c.index-arguments-at.result c.param_at.result c.in_ok-fits.field-0
    c.loop-at-test.true c.index-arguments-at.is c.param_at.ensures c.in_ok-fits.ensures c.loop-at.invariant c.if-not-branch.false

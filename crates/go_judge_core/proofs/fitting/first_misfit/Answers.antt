use Rattle.std.proofs.Common.{sym, ◌∙◌, arith}
use Rattle.go_judge_core.proofs.Each.{all_fit, one_more_fits}
use Rattle.go_judge_core.proofs.fitting.first_misfit.Goals as goal

pub loop-number-preserved : goal.loop-number-preserved
loop-number-preserved g c =
    one_more_fits (g.E.TypeLooks.types c.args.env.now) c.args.values.now c.args.wanted.now c.loop-number.number c.loop-number.invariant (sym c.in_ok-fits.ensures ∙ c.if-not-fits.false)

pub returns-then-not-fits : goal.returns-then-not-fits
returns-then-not-fits g c = (sym c.in_ok-fits.ensures ∙ c.if-not-fits.true, c.loop-number.invariant)

pub returns : goal.returns
returns g c =
    all_fit (g.E.TypeLooks.types c.args.env.now) c.args.values.now c.args.wanted.now c.loop-number.number (omega (arith, c.loop-number-test.false)) c.loop-number.invariant

use Rattle.std.proofs.Common.{map, ◌∙◌}
use Rattle.go_env_core.specs.handle_core.DecidingRules.{term_rules}
use Rattle.go_judge_core.specs.Misfits.{given_shown, wanted_shown}
use Rattle.go_judge_core.proofs.Each.{misfit_alike}
use Rattle.go_judge_core.proofs.fitting.misfit_among.Goals as goal

pub returns : goal.returns
returns c =
    misfit_alike (term_rules c.args.table.now c.args.home.now) c.deref.result.now (map given_shown c.args.values.now) c.deref-2.result.now (map wanted_shown c.args.wanted.now) c.in_ok-found.found
    (c.deref.ensures.value ∙ c.in_ok-values.ensures) (c.deref-2.ensures.value ∙ c.in_ok-wanted.ensures) c.in_ok-found.ensures

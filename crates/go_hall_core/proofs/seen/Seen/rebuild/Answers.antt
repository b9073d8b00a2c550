use Rattle.std.proofs.Common.{sym, ap, subst}
use Rattle.go_sched_core.specs.Sights.{IsListed, Serves}
use Rattle.go_sched_core.specs.declared.event.Action.{Action}
use Rattle.go_hall_core.proofs.Seeing.{of_all}
use Rattle.go_hall_core.proofs.seen.Seen.rebuild.Goals as goal

pub sight_for-requires : goal.sight_for-requires
sight_for-requires g c = sym (ap (λ (a : Action). a.generation) c.args.errand.now.of_action)

pub over-requires-clause-agrees : goal.over-requires-clause-agrees
over-requires-clause-agrees g c κs within =
    let errand = c.args.errand.now in
    (subst (λ (a : Action). Serves errand.known.log a c.in_ok-sight.sight) errand.of_action c.in_ok-sight.ensures).agrees

pub kept_after-requires : goal.kept_after-requires
kept_after-requires g c listed =
    let errand = c.args.errand.now in
    let serves = subst (λ (a : Action). Serves errand.known.log a c.in_ok-sight.sight) errand.of_action c.in_ok-sight.ensures in
    of_all errand.known.log errand.action c.in_ok-sight.sight c.in_ok-rebuilt.rebuilt.sight serves.of_actions c.in_ok-rebuilt.ensures.seen (subst (IsListed errand.known.log) errand.of_action listed)

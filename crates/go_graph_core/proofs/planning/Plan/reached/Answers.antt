use Rattle.std.proofs.Common.{◌≡◌, subst}
use Rattle.std.specs.Arc.{arc_value}
use Rattle.go_graph_core.specs.Plans.{AreReached, outcomes_shown, plan_of}
use Rattle.go_graph_core.proofs.PlanReach.{ok_weaker}
use Rattle.go_graph_core.proofs.planning.Plan.reached.Goals as goal

pub returns-clause-sets : goal.returns-clause-sets
returns-clause-sets c =
    let same : c.deref-2.result.now ≡ (arc_value c.self.inside.content).outcomes.items = cc in
    ok_weaker (AreReached (plan_of (outcomes_shown c.deref-2.result.now) c.deref-4.result.now)) (AreReached c.args.self.now)
    (λ sets h. subst (λ p. AreReached p sets) c.self.view_is (subst (λ l. AreReached (plan_of (outcomes_shown l) c.deref-4.result.now) sets) same h)) c.reached_by.result c.reached_by.ensures.sets

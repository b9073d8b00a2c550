use Rattle.std.proofs.Common.{◌≡◌, [], length, map, sym, subst}
use Rattle.std.specs.Arc.{arc_value}
use Rattle.go_digraph_core.specs.cycle.Cycle.{InRange}
use Rattle.go_graph_core.specs.Plans.{AreImporters, outcomes_shown, plan_of}
use Rattle.go_graph_core.specs.mirrors.Targets.{edges_from}
use Rattle.go_graph_core.proofs.PlanReach.{passing_range, ok_weaker}
use Rattle.go_graph_core.proofs.planning.Plan.importers.Goals as goal

pub importers_by-requires : goal.importers_by-requires
importers_by-requires c =
    let same : c.deref-2.result.now ≡ (arc_value c.self.inside.content).outcomes.items = cc in
    subst (λ l. InRange (length l) (edges_from 0 l)) (sym same) (passing_range (arc_value c.self.inside.content).outcomes.items (arc_value c.self.inside.content).order.items c.self.invariant.0)

pub returns-clause-rows : goal.returns-clause-rows
returns-clause-rows c =
    let same : c.deref-2.result.now ≡ (arc_value c.self.inside.content).outcomes.items = cc in
    ok_weaker (λ rows. AreImporters (plan_of (outcomes_shown c.deref-2.result.now) []) (map (λ r. r.items) rows.items)) (λ rows. AreImporters c.args.self.now (map (λ r. r.items) rows.items))
    (λ rows h. subst (λ p. AreImporters p (map (λ r. r.items) rows.items)) c.self.view_is (subst (λ l. AreImporters (plan_of (outcomes_shown l) []) (map (λ r. r.items) rows.items)) same h)) c.importers_by.result c.importers_by.ensures.rows

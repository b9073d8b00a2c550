use Rattle.std.proofs.Common.{◌≡◌, ◌∙◌, List, [], length, map, sym, subst}
use Rattle.go_digraph_core.specs.declared.cycle.edge.Edge.{Edge}
use Rattle.go_digraph_core.specs.cycle.Cycle.{InRange}
use Rattle.go_digraph_core.specs.reach.Reach.{AreStarts}
use Rattle.go_graph_core.specs.Plans.{AreImporters, outcomes_shown, plan_of}
use Rattle.go_graph_core.specs.mirrors.Targets.{edges_from}
use Rattle.go_graph_core.proofs.PlanReach.{are_importers, ok_weaker}
use Rattle.go_graph_core.proofs.planning.importers_by.Goals as goal

pub starts_of-requires : goal.starts_of-requires
starts_of-requires c =
    let same : c.deref.result.now ≡ edges_from 0 c.args.outcomes.now = c.deref.ensures.value ∙ c.in_ok-edges.ensures in
    let P : List Edge → Type 0 = λ l. InRange (length c.args.outcomes.now) l in
    subst P (sym same) c.requires

pub returns-clause-rows : goal.returns-clause-rows
returns-clause-rows c =
    let same : c.deref.result.now ≡ edges_from 0 c.args.outcomes.now = c.deref.ensures.value ∙ c.in_ok-edges.ensures in
    ok_weaker (λ rows. AreStarts c.deref.result.now (map (λ r. r.items) rows.items)) (λ rows. AreImporters (plan_of (outcomes_shown c.args.outcomes.now) []) (map (λ r. r.items) rows.items)) (λ rows h. are_importers c.args.outcomes.now (map (λ r. r.items) rows.items) (subst (λ l. AreStarts l (map (λ r. r.items) rows.items)) same h)) c.starts_of.result c.starts_of.ensures.rows

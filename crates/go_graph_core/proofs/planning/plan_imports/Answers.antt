use Rattle.std.proofs.Common.{◌≡◌, ℕ, length, map, sym, subst}
use Rattle.std.proofs.lemmas.List.{length-map}
use Rattle.std.specs.Arc.{arc_value}
use Rattle.go_digraph_core.specs.cycle.Cycle.{InRange}
use Rattle.go_graph_core.specs.Plans.{PlanModel, IsOrderly, outcomes_shown, plan_of, plan_with}
use Rattle.go_graph_core.proofs.PlanReach.{orderly, edges_range}
use Rattle.go_graph_core.proofs.planning.plan_imports.Goals as goal

pub invariant_of-result : goal.invariant_of-result
invariant_of-result c =
    let outs = c.in_ok-content.content.outcomes.items in
    let edges = c.in_ok-content.content.edges.items in
    let plan : PlanModel = plan_with (outcomes_shown outs) c.in_ok-content.content.order.items edges in
    let P : ℕ → Type 0 = λ n. InRange n edges in
    let range : InRange (length outs) edges = subst P (length-map outs (λ p. map (λ f. f.items) p.items)) (edges_range c.args.workspace.now plan c.in_ok-content.ensures) in
    let same : arc_value c.in_ok-new.field-0 ≡ c.in_ok-content.content = c.in_ok-new.ensures.ok in
    subst (λ x. IsOrderly (plan_of (outcomes_shown x.outcomes.items) x.order.items) × InRange (length x.outcomes.items) x.edges.items) (sym same) (orderly c.args.workspace.now plan c.in_ok-content.ensures, range)

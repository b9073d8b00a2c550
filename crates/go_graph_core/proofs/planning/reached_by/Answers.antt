use Rattle.std.proofs.Common.{◌≡◌, ◌<◌, ◌∙◌, All, List, ℕ, length, map, sym, subst}
use Rattle.std.proofs.lemmas.List.{length-map}
use Rattle.go_digraph_core.specs.declared.cycle.edge.Edge.{Edge}
use Rattle.go_digraph_core.specs.cycle.Cycle.{InRange}
use Rattle.go_digraph_core.specs.reach.Reach.{EndsStandBefore, AreReachSets}
use Rattle.go_graph_core.specs.Plans.{AreReached, outcomes_shown, plan_of}
use Rattle.go_graph_core.specs.mirrors.Targets.{edges_from}
use Rattle.go_graph_core.proofs.PlanReach.{passing_range, passing_before, are_reached, ok_weaker}
use Rattle.go_graph_core.proofs.planning.reached_by.Goals as goal

same_edges : (c : goal.After-deref) → c.deref.result.now ≡ edges_from 0 c.args.outcomes.now
same_edges c = c.deref.ensures.value ∙ c.in_ok-edges.ensures

pub find_reached-requires-clause-edges : goal.find_reached-requires-clause-edges
find_reached-requires-clause-edges c =
    let P : List Edge → Type 0 = λ l. InRange (length c.args.outcomes.now) l in
    subst P (sym (same_edges c)) (passing_range c.args.outcomes.now c.args.order.now c.requires)

pub find_reached-requires-clause-order : goal.find_reached-requires-clause-order
find_reached-requires-clause-order c =
    let P : ℕ → Type 0 = λ m. All (λ n. n < m) c.args.order.now in
    subst P (length-map c.args.outcomes.now (λ p. map (λ f. f.items) p.items)) c.requires.within

pub find_reached-requires-clause-before : goal.find_reached-requires-clause-before
find_reached-requires-clause-before c =
    let P : List Edge → Type 0 = λ l. EndsStandBefore l c.args.order.now in
    subst P (sym (same_edges c)) (passing_before c.args.outcomes.now c.args.order.now c.requires)

pub returns-clause-sets : goal.returns-clause-sets
returns-clause-sets c =
    let same : c.deref.result.now ≡ edges_from 0 c.args.outcomes.now = c.deref.ensures.value ∙ c.in_ok-edges.ensures in
    ok_weaker (AreReachSets c.deref.result.now) (AreReached (plan_of (outcomes_shown c.args.outcomes.now) c.args.order.now)) (λ sets h. are_reached c.args.outcomes.now c.args.order.now sets (subst (λ l. AreReachSets l sets) same h)) c.find_reached.result c.find_reached.ensures.sets

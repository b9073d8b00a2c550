use Rattle.std.proofs.Common.{◌≡◌, ◌∙◌, sym, ap, subst, List, ℕ, length, rules}
use Rattle.std.specs.List.{filter}
use Rattle.std.proofs.lemmas.List.{with_items_is}
use Rattle.go_digraph_core.specs.declared.cycle.edge.Edge.{Edge}
use Rattle.go_digraph_core.specs.cycle.Cycle.{InRange, IsRanking, IsAfter}
use Rattle.go_graph_core.specs.Workspaces.{PackageModel, IsWorkspace}
use Rattle.go_graph_core.specs.mirrors.Targets.{AreAllSettled, edges_from, is_assembled}
use Rattle.go_graph_core.specs.Plans.{IsPlan, plan_with, outcomes_shown}
use Rattle.go_graph_core.proofs.PlanEdges.{in_range}
use Rattle.go_graph_core.proofs.PlanLemmas.{planned}
use Rattle.go_graph_core.proofs.planning.plan_content.Goals as goal

pub rank_and_order-requires : goal.rank_and_order-requires
rank_and_order-requires c =
    let ps = c.packages-packages.result.now in
    let ts = c.in_ok-outcomes.outcomes.items in
    let given : c.deref-3.result.now ≡ edges_from 0 ts = c.deref-3.ensures.value ∙ (c.in_ok-edges.ensures ∙ ap (edges_from 0) c.deref-2.ensures.value) in
    subst (λ (l : List Edge). InRange (length ps) l) (sym given) (in_range ps ts c.in_ok-outcomes.ensures)

pub returns : goal.returns
returns c =
    let ps = c.packages-packages.result.now in
    let ts = c.in_ok-outcomes.outcomes.items in
    let outs = c.settle.new.packages in
    let standings = c.in_ok-standings.standings.items in
    let ranks = c.in_ok-ranked.ranked.ranks in
    let numbers = c.in_ok-ranked.ranked.order in
    let given : c.deref-3.result.now ≡ edges_from 0 ts = c.deref-3.ensures.value ∙ (c.in_ok-edges.ensures ∙ ap (edges_from 0) c.deref-2.ensures.value) in
    let same : ps ≡ c.args.workspace.now = c.packages-packages.ensures.packages in
    let well : IsWorkspace ps = subst (λ (l : List PackageModel). IsWorkspace l) (sym same) c.packages-packages.ensures.well in
    let ranking = subst (λ (l : List Edge). IsRanking l ranks) given c.in_ok-ranked.ensures.ranks in
    let after = subst (λ (l : List Edge). IsAfter l numbers) given c.in_ok-ranked.ensures.after in
    let settled = subst (λ l. AreAllSettled ranks l outs) c.deref_mut.ensures.value c.settle.ensures in
    let order : c.in_ok-order.order.items ≡ filter (is_assembled standings) numbers = c.in_ok-order.ensures ∙ (ap (λ s. filter (is_assembled s) c.order.result.now) c.deref-4.ensures.value ∙ ap (filter (is_assembled standings)) c.order.ensures) in
    let plan = planned ps standings ts outs ranks numbers well c.in_ok-standings.ensures c.in_ok-outcomes.ensures ranking c.in_ok-ranked.ensures.each after settled in
    let drawn : c.in_ok-edges.edges.items ≡ edges_from 0 ts = c.in_ok-edges.ensures ∙ ap (edges_from 0) c.deref-2.ensures.value in
    let ordered = subst (λ (l : List ℕ). IsPlan ps (plan_with (outcomes_shown outs) l (edges_from 0 ts))) (sym order) plan in
    let with_edges = subst (λ (l : List Edge). IsPlan ps (plan_with (outcomes_shown outs) c.in_ok-order.order.items l)) (sym drawn) ordered in
    let made_plan = subst (λ (l : List PackageModel). IsPlan l (plan_with (outcomes_shown outs) c.in_ok-order.order.items c.in_ok-edges.edges.items)) same with_edges in
    let long : length outs ≡ c.in_ok-outcomes.outcomes.len = search rules in
    let made = with_items_is c.in_ok-outcomes.outcomes outs long in
    subst (λ l. IsPlan c.args.workspace.now (plan_with (outcomes_shown l) c.in_ok-order.order.items c.in_ok-edges.edges.items)) (sym made) made_plan

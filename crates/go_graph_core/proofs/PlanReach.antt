-- What packages reach by passing imports.
use Rattle.std.proofs.Common.{◌≡◌, ◌<◌, ℕ, List, [], length, get_or, map, All, Some, MatchOption, Result, Ok, Err, sym, ◌∙◌, subst, arith}
use Rattle.std.specs.List.{Contains}
use Rattle.std.specs.Prelude.{IfOk}
use Rattle.std.proofs.lemmas.List.{length-map}
use Rattle.std.proofs.lemmas.List.Elements.{All-contains, Contains-get_or}
use Rattle.std.proofs.lemmas.Option.{slice_get_within}
use Rattle.go_digraph_core.specs.declared.cycle.edge.Edge.{Edge}
use Rattle.go_digraph_core.specs.cycle.Cycle.{InRange}
use Rattle.go_digraph_core.proofs.CycleWalks.{by_more}
use Rattle.go_digraph_core.specs.reach.Numbers.{Numbers}
use Rattle.go_digraph_core.specs.reach.Reach.{ReachesByEdges, AreReachSets, AreStarts, EndsStandBefore}
use Rattle.go_graph_core.specs.declared.imports.ImportAt.{ImportAt}
use Rattle.go_graph_core.specs.declared.imports.ImportOutcome.{ImportOutcome}
use Rattle.go_graph_core.specs.declared.imports.ImportOutcome.TheVariants.{Package}
use Rattle.go_graph_core.specs.Workspaces.{PackageModel}
use Rattle.go_graph_core.specs.Imports.{IsNoImport, IsOutcome, IsEdge, edge}
use Rattle.go_graph_core.specs.Plans.{PlanModel, IsPlan, IsOrderly, IsPassing, AreReached, AreImporters, IsAssembledAt, plan_of, outcome_at, outcomes_shown}
use Rattle.go_graph_core.specs.mirrors.Targets.{edges_from}
use Rattle.go_graph_core.proofs.PlanEdges.{Targets, edge_at, edge_from}
use Rattle.go_graph_core.proofs.PlanLemmas.{shown, shows}

-- the outcome at a place of a plan
planned_at : (ps : List PackageModel) (plan : PlanModel) (at : ImportAt) (o : ImportOutcome) → IsPlan ps plan → outcome_at plan.outcomes at ≡ Some o → IsOutcome ps at o
planned_at ps plan at o h e = subst (λ r. MatchOption r (IsNoImport ps at) (IsOutcome ps at)) e (h.outcomes at)

-- a plan is in an order
pub orderly : (ps : List PackageModel) (plan : PlanModel) → IsPlan ps plan → IsOrderly (plan_of plan.outcomes plan.order)
orderly ps plan h = record {
  within = λ k d lt.
      let there = (h.each (get_or plan.order k d)).0 (Contains-get_or plan.order k d lt) in
      let below : get_or plan.order k d < length ps = slice_get_within ps (get_or plan.order k d) (there.0, there.1) there.2 in
      let many = h.many in
      omega (arith, below, many);
  after = λ e passes.
      let at : ImportAt = passes.0 in
      let outcome : IsOutcome ps at (Package e.to) = planned_at ps plan at (Package e.to) h passes.2 in
      let found = outcome.judged.0 in
      let there : IsAssembledAt ps e.to = (outcome.text, found.files, found.numbered, found.library.0) in
      ((h.each e.to).1 there, λ j k lj lk x y. h.after at e.to outcome j k lj lk (x ∙ sym passes.1) y);
}

-- the edges of a plan join packages
pub edges_range : (ps : List PackageModel) (plan : PlanModel) → IsPlan ps plan → InRange (length plan.outcomes) plan.edges
edges_range ps plan h k d lt =
    let e : Edge = get_or plan.edges k d in
    let is : IsEdge ps e = (h.edges e).0 (Contains-get_or plan.edges k d lt) in
    let a : is.at.«package» < length ps = slice_get_within ps is.at.«package» (is.q, is.there.files) is.there.numbered in
    let b : e.to < length ps = slice_get_within ps e.to (is.text, is.target.files) is.target.numbered in
    let many = h.many in
    let c : e.from < length plan.outcomes = omega (arith, a, is.from, many) in
    (c, omega (arith, b, many))

-- the edges of outcomes are the passing imports

abbrev plan_for : {S : Type 0} → List (Targets S) → List ℕ → PlanModel
plan_for outs order = plan_of (outcomes_shown outs) order

passes : {S : Type 0} (outs : List (Targets S)) (order : List ℕ) (e : Edge) → Contains (edges_from 0 outs) e → IsPassing (plan_for outs order) e
passes outs order e h =
    let r = edge_from 0 outs e h in
    let from : r.i ≡ e.from = omega (arith, r.from) in
    (record { «package» = r.i; file = r.a; import = r.b }, from, shows outs r.i r.a r.b r.p r.f (Package e.to) r.in_all r.in_files r.in_file)

has_passing : {S : Type 0} (outs : List (Targets S)) (order : List ℕ) (e : Edge) → IsPassing (plan_for outs order) e → Contains (edges_from 0 outs) e
has_passing outs order e h =
    let at : ImportAt = h.0 in
    let r = shown outs at.«package» at.file at.import (Package e.to) h.2 in
    let here = edge_at outs at.«package» at.file at.import r.0 r.1 e.to r.2 r.3 r.4 in
    subst (λ m. Contains (edges_from 0 outs) (edge m e.to)) h.1 here

pub passing_range : {S : Type 0} (outs : List (Targets S)) (order : List ℕ) → IsOrderly (plan_for outs order) → InRange (length outs) (edges_from 0 outs)
passing_range {S} outs order well = λ k d lt.
    let e : Edge = get_or (edges_from 0 outs) k d in
    let h = Contains-get_or (edges_from 0 outs) k d lt in
    let r = edge_from 0 outs e h in
    let n = length-map outs (λ (p : Targets S). map (λ f. f.items) p.items) in
    let a = slice_get_within outs r.i r.p r.in_all in
    let c : e.from < length outs = omega (arith, a, r.from) in
    let b : e.to < length (outcomes_shown outs) = All-contains (λ i. i < length (outcomes_shown outs)) order e.to well.within (well.after e (passes outs order e h)).0 in
    (c, omega (arith, b, n))

pub passing_before : {S : Type 0} (outs : List (Targets S)) (order : List ℕ) → IsOrderly (plan_for outs order) → EndsStandBefore (edges_from 0 outs) order
passing_before outs order well e h = let b = well.after e (passes outs order e h) in (b.0, λ i j li lj x y. b.1 i j li lj x y)

-- what some edges reach more edges reach
more_reach : (g more : List Edge) → All (Contains more) g → (a b : ℕ) → ReachesByEdges g a b → ReachesByEdges more a b
more_reach g more all a b r =
    let e : Edge = r.0 in
    let rest = (by_more g more all).0 e.to b (r.1, r.2.2) in
    (e, rest.0, (All-contains (Contains more) g e all r.2.0, r.2.1, rest.1))

pub are_reached : {S : Type 0} (outs : List (Targets S)) (order : List ℕ) (sets : List Numbers) → AreReachSets (edges_from 0 outs) sets → AreReached (plan_for outs order) sets
are_reached outs order sets h i set at j = (
  (λ m. (edges_from 0 outs, (λ k d lt. passes outs order (get_or (edges_from 0 outs) k d) (Contains-get_or (edges_from 0 outs) k d lt)), (h i set at j).0 m)),
  (λ r. (h i set at j).1 (more_reach r.0 (edges_from 0 outs) (λ k d lt. has_passing outs order (get_or r.0 k d) (r.1 k d lt)) i j r.2)),
)

-- the starts of the edges of outcomes are the packages whose passing imports come to each
pub are_importers : {S : Type 0} (outs : List (Targets S)) (rows : List (List ℕ)) → AreStarts (edges_from 0 outs) rows → AreImporters (plan_for outs []) rows
are_importers outs rows h to row at from = (
  (λ m. passes outs [] (edge from to) ((h to row at from).0 m)),
  (λ p. (h to row at from).1 (has_passing outs [] (edge from to) p)),
)

-- what holds of a result that is there
pub ok_weaker : {X E : Type 0} (P Q : X → Type 0) → ((x : X) → P x → Q x) → (r : Result X E) → IfOk r P → IfOk r Q
ok_weaker P Q weaker (Ok x) h = weaker x h
ok_weaker P Q weaker (Err e) h = h

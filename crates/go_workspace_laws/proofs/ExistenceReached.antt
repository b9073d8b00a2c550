-- Which packages a package reaches is decided, and their numbers are listed.
use Rattle.std.proofs.Common.{◌≡◌, ◌↔◌, ◌⊎◌, inl, inr, ℕ, ◌+◌, ◌<◌, Bool, true, false, not, All, List, [], ◌∷◌, filter, get_or, length, refl, sym, ◌∙◌, ap, subst, arith}
use Rattle.std.specs.Prelude.{Contains, slice_index}
use Rattle.std.specs.List.{range_with_len}
use Rattle.std.specs.List.Sorted.{IsStrictlyIncreasing}
use Rattle.std.proofs.lemmas.Bool.{cases_eq, true≢false}
use Rattle.std.proofs.lemmas.List.Elements.{All-contains, Contains-get_or}
use Rattle.std.proofs.lemmas.List.FromFn.{get_or-range_with_len, length-range_with_len}
use Rattle.std.proofs.lemmas.List.Kept.{IsStrictlyIncreasing-filter}
use Rattle.std.proofs.lemmas.Option.{slice_get_within}
use Rattle.go_digraph_core.specs.declared.cycle.edge.Edge.{Edge}
use Rattle.go_digraph_core.specs.cycle.Cycle.{IsOnCycle, Reaches}
use Rattle.go_digraph_core.proofs.CycleWalks.{by_more}
use Rattle.go_digraph_core.specs.reach.Reach.{ReachesByEdges}
use Rattle.go_digraph_core.proofs.NeedsEdges.{in_all}
use Rattle.go_term_core.proofs.Members.{In, contained_in, filter_in, in_contained, in_filter}
use Rattle.go_graph_core.specs.declared.imports.ImportOutcome.TheVariants.{Package}
use Rattle.go_graph_core.specs.Imports.{IsEdge, IsOutcome, LiesOnCycle, edge}
use Rattle.go_graph_core.specs.Plans.{IsPlan, PlanModel}
use Rattle.go_graph_core.specs.Workspaces.{PackageModel}
use Rattle.go_graph_core.proofs.Reaching.{reach_decided}
use Rattle.go_snap_core.specs.whole_workspace.Inputs.{IsPassingImport, ReachesPackage}
use Rattle.go_snap_core.proofs.WholeWorkspaceOrder.{reached_before}
use Rattle.go_workspace_laws.proofs.ExistenceLooped.{cycle_decided}
use Rattle.go_workspace_laws.proofs.ExistenceOrders.{holds, holds_is}

-- one of some edges starts at a node and goes on to another, or none does
abbrev OneStarts : List Edge → ℕ → ℕ → List Edge → Type 0
OneStarts g n m es = ((e : Edge) × In es e × (e.from ≡ n) × Reaches g e.to m) ⊎ ((e : Edge) → In es e → e.from ≡ n → Reaches g e.to m → ⊥)

same_number : (a b : ℕ) → (a ≡ b) ⊎ (a ≡ b → ⊥)
same_number a b = cases_eq a b

one_starts : (g : List Edge) (n m : ℕ) (es : List Edge) → OneStarts g n m es
one_starts g n m [] = inr (λ e at. absurd at)
one_starts g n m (x ∷ es) = elim (one_starts g n m es) [
  | inl one ↦ inl (one.0, inr one.1, one.2, one.3)
  | inr none ↦ elim (same_number x.from n) [
    | inr other ↦ inr (λ e at from r. elim at [ inl is ↦ other (ap (λ (y : Edge). y.from) is ∙ from) | inr later ↦ none e later from r ])
    | inl same ↦ elim (reach_decided g x.to m) [
      | inl r ↦ inl (x, inl refl, same, r)
      | inr off ↦ inr (λ e at from r. elim at [ inl is ↦ off (subst (λ (y : Edge). Reaches g y.to m) (sym is) r) | inr later ↦ none e later from r ])
    ]
  ]
]

edges_decided : (g : List Edge) (n m : ℕ) → ReachesByEdges g n m ⊎ (ReachesByEdges g n m → ⊥)
edges_decided g n m = elim (one_starts g n m g) [
  | inl one ↦ inl (one.0, one.3.0, (contained_in g one.0 one.1, one.2, one.3.1))
  | inr none ↦ inr (λ h. none h.0 (in_contained g h.0 h.2.0) h.2.1 (h.1, h.2.2))
]

-- what some edges reach more edges reach
more_reach : (g more : List Edge) → All (Contains more) g → (a b : ℕ) → ReachesByEdges g a b → ReachesByEdges more a b
more_reach g more all a b r =
    let e : Edge = r.0 in
    let rest = (by_more g more all).0 e.to b (r.1, r.2.2) in
    (e, rest.0, (All-contains (Contains more) g e all r.2.0, r.2.1, rest.1))

not_is : (b : Bool) → (b ≡ true → ⊥) → not b ≡ true
not_is true h = absurd (h refl)
not_is false h = refl

is_not : (b : Bool) → not b ≡ true → b ≡ true → ⊥
is_not true h k = true≢false (sym h)
is_not false h k = true≢false (sym k)

module _ (ps : List PackageModel) (plan : PlanModel) (planned : IsPlan ps plan) where
  -- cycles of the plan's edges

  on_cycle : (e : Edge) → IsOnCycle plan.edges e → LiesOnCycle ps e
  on_cycle e h = (plan.edges, (λ k d lt. (planned.edges (get_or plan.edges k d)).0 (Contains-get_or plan.edges k d lt)), h)

  of_cycle : (e : Edge) → LiesOnCycle ps e → IsOnCycle plan.edges e
  of_cycle e h =
      let g : List Edge = h.0 in
      let all : All (Contains plan.edges) g = (λ k d lt. (planned.edges (get_or g k d)).1 (h.1 k d lt)) in
      elim h.2 [ inl same ↦ inl same | inr r ↦ inr ((by_more g plan.edges all).0 e.to e.from r) ]

  -- the edges that lie on none are the imports that pass

  abbrev passes : Edge → Bool
  passes e = not (holds (cycle_decided plan.edges e))

  abbrev passing : List Edge
  passing = filter passes plan.edges

  passing_is : (e : Edge) → Contains passing e → IsPassingImport ps e
  passing_is e h =
      let there = filter_in passes plan.edges e (in_contained passing e h) in
      let is : IsEdge ps e = (planned.edges e).0 (contained_in plan.edges e there.0) in
      let off : LiesOnCycle ps e → ⊥ = (λ c. is_not (holds (cycle_decided plan.edges e)) there.1 ((holds_is (cycle_decided plan.edges e)).1 (of_cycle e c))) in
      let outcome : IsOutcome ps is.at (Package e.to) = record { q = is.q; text = is.text; there = is.there; judged = (is.target, λ c. off (subst (λ n. LiesOnCycle ps (edge n e.to)) is.from c)) } in
      (is.at, is.from, outcome)

  is_passing : (e : Edge) → IsPassingImport ps e → Contains passing e
  is_passing e h =
      let outcome : IsOutcome ps h.0 (Package e.to) = h.2 in
      let is : IsEdge ps e = record { at = h.0; q = outcome.q; text = outcome.text; there = outcome.there; from = h.1; target = outcome.judged.0 } in
      let off : IsOnCycle plan.edges e → ⊥ = (λ c. outcome.judged.1 (subst (λ n. LiesOnCycle ps (edge n e.to)) (sym h.1) (on_cycle e c))) in
      contained_in passing e
      (in_filter passes plan.edges e (in_contained plan.edges e ((planned.edges e).1 is)) (not_is (holds (cycle_decided plan.edges e)) (λ yes. off ((holds_is (cycle_decided plan.edges e)).0 yes))))

  -- packages

  package_reached : (n m : ℕ) → ReachesByEdges passing n m → ReachesPackage ps n m
  package_reached n m r = (passing, (λ k d lt. passing_is (get_or passing k d) (Contains-get_or passing k d lt)), r)

  reached_package : (n m : ℕ) → ReachesPackage ps n m → ReachesByEdges passing n m
  reached_package n m r = (let g : List Edge = r.0 in more_reach g passing (λ k d lt. is_passing (get_or g k d) (r.1 k d lt)) n m r.2)

  pub reaches_decided : (n m : ℕ) → ReachesPackage ps n m ⊎ (ReachesPackage ps n m → ⊥)
  reaches_decided n m = elim (edges_decided passing n m) [
    | inl r ↦ inl (package_reached n m r)
    | inr off ↦ inr (λ r. off (reached_package n m r))
  ]

  -- the numbers of those that the package of a number reaches
  module _ (n : ℕ) where
    abbrev is_reached : ℕ → Bool
    is_reached m = holds (reaches_decided n m)

    abbrev pub numbers : List ℕ
    numbers = filter is_reached (range_with_len 0 (length ps))

    range_rises : (c : ℕ) → IsStrictlyIncreasing (range_with_len 0 c)
    range_rises c = λ k lt.
        let many = length-range_with_len 0 c in
        let one : slice_index (range_with_len 0 c) k ≡ 0 + k = get_or-range_with_len 0 c k 0 (omega (arith, lt, many)) in
        let two : slice_index (range_with_len 0 c) (k + 1) ≡ 0 + (k + 1) = get_or-range_with_len 0 c (k + 1) 0 (omega (arith, lt, many)) in
        omega (arith, one, two)

    pub numbers_rise : IsStrictlyIncreasing numbers
    numbers_rise = IsStrictlyIncreasing-filter is_reached (range_with_len 0 (length ps)) (range_rises (length ps))

    number_reached : (m : ℕ) → Contains numbers m → ReachesPackage ps n m
    number_reached m h = (holds_is (reaches_decided n m)).0 (filter_in is_reached (range_with_len 0 (length ps)) m (in_contained numbers m h)).1

    reached_number : (m : ℕ) → ReachesPackage ps n m → Contains numbers m
    reached_number m r =
        let assembled = (reached_before ps plan planned n m r).0 in
        let lt : m < length ps = slice_get_within ps m (assembled.0, assembled.1) assembled.2 in
        contained_in numbers m (in_filter is_reached (range_with_len 0 (length ps)) m (in_contained (range_with_len 0 (length ps)) m (in_all (length ps) m lt)) ((holds_is (reaches_decided n m)).1 r))

    pub numbers_are : (m : ℕ) → Contains numbers m ↔ ReachesPackage ps n m
    numbers_are m = (number_reached m, reached_number m)

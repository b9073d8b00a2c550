-- What packages reach stands before them in a plan.
use Rattle.std.proofs.Common.{◌≡◌, ℕ, zero, suc, ◌<◌, List, [], ◌∷◌, ◌++◌, length, All, refl, sym, subst, ◌∙◌, arith}
use Rattle.std.specs.Prelude.{slice_index, slice_index_or, Contains}
use Rattle.std.proofs.lemmas.List.{get_or_default}
use Rattle.std.proofs.lemmas.List.Elements.{All-append, All-contains, Contains-append_left, Contains-append_right}
use Rattle.go_digraph_core.specs.declared.cycle.edge.Edge.{Edge}
use Rattle.go_digraph_core.specs.cycle.Cycle.{Leads}
use Rattle.go_graph_core.specs.declared.imports.ImportAt.{ImportAt}
use Rattle.go_graph_core.specs.declared.imports.ImportOutcome.TheVariants.{Package}
use Rattle.go_graph_core.specs.Imports.{IsOutcome}
use Rattle.go_graph_core.specs.Plans.{PlanModel, IsPlan, IsAssembledAt}
use Rattle.go_graph_core.specs.Workspaces.{PackageModel}
use Rattle.go_names_core.specs.block_core.AllLemmas.{found_at}
use Rattle.go_snap_core.specs.whole_workspace.Inputs.{IsPassingImport, ReachesPackage}

-- reaching

leads_more : (g more : List Edge) → ((e : Edge) → Contains g e → Contains more e) → (es : List Edge) (a b : ℕ) → Leads g es a b → Leads more es a b
leads_more g more f [] a b h = h
leads_more g more f (e ∷ es) a b h = (f e h.0, h.1, leads_more g more f es e.to b h.2)

leads_on : (g : List Edge) (es fs : List Edge) (a b c : ℕ) → Leads g es a b → Leads g fs b c → Leads g (es ++ fs) a c
leads_on g [] fs a b c same h = subst (λ n. Leads g fs n c) (sym same) h
leads_on g (e ∷ es) fs a b c h k = (h.0, h.1, leads_on g es fs e.to b c h.2 k)

pub reaches_on : (ps : List PackageModel) (n m l : ℕ) → ReachesPackage ps n m → ReachesPackage ps m l → ReachesPackage ps n l
reaches_on ps n m l r s =
    let g : List Edge = r.0 in
    let h : List Edge = s.0 in
    let one : Leads (g ++ h) (r.2.0 ∷ r.2.1) n m = leads_more g (g ++ h) (λ e at. Contains-append_left g h e at) (r.2.0 ∷ r.2.1) n m r.2.2 in
    let other : Leads (g ++ h) (s.2.0 ∷ s.2.1) m l = leads_more h (g ++ h) (λ e at. Contains-append_right g h e at) (s.2.0 ∷ s.2.1) m l s.2.2 in
    (g ++ h, All-append (IsPassingImport ps) g h r.1 s.1, (r.2.0, r.2.1 ++ (s.2.0 ∷ s.2.1), leads_on (g ++ h) (r.2.0 ∷ r.2.1) (s.2.0 ∷ s.2.1) n m l one other))

-- an import that passes leads to what it comes to
pub reaches_next : (ps : List PackageModel) (at : ImportAt) (m : ℕ) → IsOutcome ps at (Package m) → ReachesPackage ps at.«package» m
reaches_next ps at m h =
    let e : Edge = record { from = at.«package»; to = m } in
    (e ∷ [], (λ k d lt. (let z : k ≡ 0 = omega (arith, lt) in by k d z)), (e, [], ((0, omega arith, refl), refl, refl)))
  where
    by : (k : ℕ) (d : Edge) → k ≡ 0 → IsPassingImport ps (slice_index_or (record { from = at.«package»; to = m } ∷ []) k d)
    by k d z = subst (λ n. IsPassingImport ps (slice_index_or (record { from = at.«package»; to = m } ∷ []) n d)) (sym z) (at, refl, h)

-- positions

module _ (ps : List PackageModel) (plan : PlanModel) (planned : IsPlan ps plan) where
  -- a package stands before another in the plan
  abbrev pub StandsBefore : ℕ → ℕ → Type 0
  StandsBefore m n = (j k : ℕ) → j < length plan.order → k < length plan.order → slice_index plan.order j ≡ n → slice_index plan.order k ≡ m → k < j

  passing_before : (e : Edge) → IsPassingImport ps e → IsAssembledAt ps e.to × StandsBefore e.to e.from
  passing_before e h = (found_at ps h.0 e.to h.2, λ j k lj lk x y. planned.after h.0 e.to h.2 j k lj lk (x ∙ sym h.1) y)

  pub place_of : (n : ℕ) → IsAssembledAt ps n → (k : ℕ) × (k < length plan.order) × (slice_index plan.order k ≡ n)
  place_of n h = (let c = (planned.each n).1 h in (c.0, c.1, get_or_default plan.order c.0 0 n c.1 ∙ c.2))

  pub assembled_by : (k : ℕ) → k < length plan.order → IsAssembledAt ps (slice_index plan.order k)
  assembled_by k lt = (planned.each (slice_index plan.order k)).0 (k, lt, get_or_default plan.order k (slice_index plan.order k) 0 lt)

  led_before : (g : List Edge) → All (IsPassingImport ps) g → (e : Edge) (es : List Edge) (n m : ℕ) → Leads g (e ∷ es) n m → IsAssembledAt ps m × StandsBefore m n
  led_before g all e [] n m h =
      let step = passing_before e (All-contains (IsPassingImport ps) g e all h.0) in
      (subst (IsAssembledAt ps) h.2 step.0, λ j k lj lk x y. step.1 j k lj lk (x ∙ sym h.1) (y ∙ sym h.2))
  led_before g all e (f ∷ fs) n m h =
      let step = passing_before e (All-contains (IsPassingImport ps) g e all h.0) in
      let rest = led_before g all f fs e.to m h.2 in
      let middle = place_of e.to step.0 in
      (rest.0, λ j k lj lk x y. (let a : middle.0 < j = step.1 j middle.0 lj middle.1 (x ∙ sym h.1) middle.2 in let b : k < middle.0 = rest.1 middle.0 k middle.1 lk middle.2 y in omega (arith, a, b)))

  -- what a package reaches is assembled, and stands before it
  pub reached_before : (n m : ℕ) → ReachesPackage ps n m → IsAssembledAt ps m × StandsBefore m n
  reached_before n m r = led_before r.0 r.1 r.2.0 r.2.1 n m r.2.2

  -- a package does not reach itself
  pub reaches_others : (n : ℕ) → ReachesPackage ps n n → ⊥
  reaches_others n r =
      let b = reached_before n n r in
      let at = place_of n b.0 in
      let lt : at.0 < at.0 = b.1 at.0 at.0 at.1 at.1 at.2 at.2 in
      omega (arith, lt)

  -- what holds of each place where it holds of those before it
  pub by_place : (P : ℕ → Type 0) → ((k : ℕ) → k < length plan.order → ((j : ℕ) → j < k → P j) → P k) → (k : ℕ) → k < length plan.order → P k
  by_place P step k lt = up_to (suc k) k (omega arith) lt
    where
      up_to : (c : ℕ) (j : ℕ) → j < c → j < length plan.order → P j
      up_to zero j below within = absurd (omega (arith, below))
      up_to (suc c) j below within = step j within (λ i less. up_to c i (omega (arith, less, below)) (omega (arith, less, within)))

  -- what holds of each assembled package where it holds of those that it reaches
  pub along : (P : ℕ → Type 0) → ((n : ℕ) → IsAssembledAt ps n → ((m : ℕ) → ReachesPackage ps n m → P m) → P n) → (n : ℕ) → IsAssembledAt ps n → P n
  along P step n h =
      let at = place_of n h in
      subst P at.2
      (by_place (λ k. P (slice_index plan.order k))
      (λ k lt earlier. step (slice_index plan.order k) (assembled_by k lt)
      (λ m r. (let b = reached_before (slice_index plan.order k) m r in let place = place_of m b.0 in subst P place.2 (earlier place.0 (b.1 k place.0 lt place.1 refl place.2)))))
      at.0 at.1)

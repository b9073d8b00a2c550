-- Imports on cycles, by marks.
use Rattle.std.proofs.Common.{◌≡◌, ℕ, inr, Bool, true, false, List, length, get_or, subst}
use Rattle.std.specs.Prelude.{◌↔◌, All, Contains, slice_index_or}
use Rattle.std.proofs.lemmas.List.Elements.{Contains-get_or}
use Rattle.go_digraph_core.specs.declared.cycle.edge.Edge.{Edge}
use Rattle.go_digraph_core.specs.cycle.Cycle.{InRange, LeadTo}
use Rattle.go_digraph_core.proofs.CycleWalks.{by_more, leads_back}
use Rattle.go_graph_core.specs.Imports.{IsEdge, LiesOnCycle, edge}
use Rattle.go_graph_core.specs.Plans.{IsPlan, PlanModel}
use Rattle.go_graph_core.specs.Workspaces.{PackageModel}
use Rattle.go_import_core.specs.list.mirrors.Marks.{MarkCycles}

module _ (ps : List PackageModel) (edges : List Edge) (all : (e : Edge) → Contains edges e ↔ IsEdge ps e) (own : ℕ) (marks : List Bool) (leads : LeadTo edges own marks) where
  marked : (n : ℕ) → slice_index_or marks n false ≡ true → LiesOnCycle ps (edge own n)
  marked n on = (edges, (λ k d lt. (all (get_or edges k d)).0 (Contains-get_or edges k d lt)), inr ((leads n).0 on))

  marks_it : (n : ℕ) → LiesOnCycle ps (edge own n) → slice_index_or marks n false ≡ true
  marks_it n lies =
      let some : List Edge = lies.0 in
      let within : All (Contains edges) some = λ k d lt. (all (get_or some k d)).1 (lies.1 k d lt) in
      (leads n).1 ((by_more some edges within).0 n own (leads_back some (edge own n) lies.2))

  pub mark_cycles : MarkCycles ps own marks
  mark_cycles = λ n. (marked n, marks_it n)

-- edges that are in range of a plan's packages are in range of the workspace's
pub plan_range : (ps : List PackageModel) (plan : PlanModel) → IsPlan ps plan → InRange (length plan.outcomes) plan.edges → InRange (length ps) plan.edges
plan_range ps plan h range = subst (λ (n : ℕ). InRange n plan.edges) h.many range

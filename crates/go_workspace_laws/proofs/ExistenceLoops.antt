-- Whether what a node needs leads back to it is decided.
use Rattle.std.proofs.Common.{◌≡◌, ℕ, zero, suc, ◌<◌, ◌⊎◌, inl, inr, List, [], ◌∷◌, length, get_or, refl, sym, subst, arith}
use Rattle.std.specs.Prelude.{Contains}
use Rattle.go_digraph_core.specs.cycle.Cycle.{Reaches}
use Rattle.go_digraph_core.specs.needs.Needs.{NeedsLead, edges_from, needed}
use Rattle.go_digraph_core.proofs.NeedsEdges.{edge, need_edge, path_of}
use Rattle.go_workspace_laws.specs.existence.Laws.{LoopsAreDecided}
use Rattle.go_graph_core.proofs.Reaching.{reach_decided}

-- a path is a list of edges
edges_of : (rows : List (List ℕ)) (path : List ℕ) (a b : ℕ) → NeedsLead rows a path b → Reaches (edges_from 0 rows) a b
edges_of rows [] a b h = ([], h)
edges_of rows (c ∷ path) a b h = (let rest = edges_of rows path c b h.1 in (edge a c ∷ rest.0, (need_edge rows a c h.0, refl, rest.1)))

-- one of a row leads to a node, or none does

abbrev OneLeads : List (List ℕ) → ℕ → List ℕ → Type 0
OneLeads rows b row = ((c : ℕ) × Contains row c × Reaches (edges_from 0 rows) c b) ⊎ ((c : ℕ) → Contains row c → Reaches (edges_from 0 rows) c b → ⊥)

none_more : (rows : List (List ℕ)) (b c : ℕ) (row : List ℕ) → (Reaches (edges_from 0 rows) c b → ⊥) → ((d : ℕ) → Contains row d → Reaches (edges_from 0 rows) d b → ⊥) → (d i : ℕ) → i < length (c ∷ row) → get_or (c ∷ row) i d ≡ d → Reaches (edges_from 0 rows) d b → ⊥
none_more rows b c row off none d zero lt e r = off (subst (λ x. Reaches (edges_from 0 rows) x b) (sym e) r)
none_more rows b c row off none d (suc i) lt e r = none d (i, omega (arith, lt), e) r

one_leads : (rows : List (List ℕ)) (b : ℕ) (row : List ℕ) → OneLeads rows b row
one_leads rows b [] = inr (λ c at r. omega (arith, at.1))
one_leads rows b (c ∷ row) = elim (reach_decided (edges_from 0 rows) c b) [
  | inl there ↦ inl (c, (0, omega arith, refl), there)
  | inr off ↦ elim (one_leads rows b row) [
    | inl one ↦ inl (one.0, (suc one.1.0, (let lt = one.1.1 in omega (arith, lt)), one.1.2), one.2)
    | inr none ↦ inr (λ d at r. none_more rows b c row off none d at.0 at.1 at.2 r)
  ]
]

pub loops_are_decided : LoopsAreDecided
loops_are_decided rows a = elim (one_leads rows a (needed rows a)) [
  | inl one ↦ inl (let p = path_of rows one.2.0 one.0 a one.2.1 in record { first = one.0; around = p.0; back = (one.1, p.1) })
  | inr none ↦ inr (λ h. none h.first h.back.0 (edges_of rows h.around h.first a h.back.1))
]

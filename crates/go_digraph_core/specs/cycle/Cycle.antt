-- Graphs as lists of edges between numbers: what reaches what, cycles, ranks and orders.
use Rattle.std.specs.Prelude.{◌≡◌, ℕ, ◌<◌, ◌≤◌, ◌⊎◌, ◌↔◌, Bool, true, false, List, [], ◌∷◌, length, slice_index, slice_index_or, All, Contains}
use Rattle.go_digraph_core.specs.declared.cycle.edge.Edge.{Edge}

-- each edge joins two nodes below a count
abbrev pub InRange : ℕ → List Edge → Type 0
InRange count edges = All (λ e. (e.from < count) × (e.to < count)) edges

-- the edge between the same nodes the other way
abbrev pub reversed : Edge → Edge
reversed e = record { from = e.to; to = e.from }

-- a list of edges that leads from a to b
abbrev pub Leads : List Edge → List Edge → ℕ → ℕ → Type 0
Leads edges [] a b = a ≡ b
Leads edges (e ∷ es) a b = Contains edges e × (e.from ≡ a) × Leads edges es e.to b

-- some list of edges leads from a to b
abbrev pub Reaches : List Edge → ℕ → ℕ → Type 0
Reaches edges a b = (es : List Edge) × Leads edges es a b

-- the marks are on the nodes that lead to b, and on no other
abbrev pub LeadTo : List Edge → ℕ → List Bool → Type 0
LeadTo edges b marks = (n : ℕ) → (slice_index_or marks n false ≡ true) ↔ Reaches edges n b

-- an edge lies on a cycle: it ends where it starts, or a list of edges leads back
abbrev pub IsOnCycle : List Edge → Edge → Type 0
IsOnCycle edges e = (e.to ≡ e.from) ⊎ Reaches edges e.to e.from

-- the ranks do not rise along an edge, and are equal at its ends exactly where it lies on a cycle
abbrev pub IsRanked : List Edge → List ℕ → Edge → Type 0
IsRanked edges ranks e =
    (slice_index ranks e.to ≤ slice_index ranks e.from)
    × ((slice_index ranks e.to ≡ slice_index ranks e.from) ↔ IsOnCycle edges e)

-- ranks that never rise along an edge, and are equal at its ends exactly where it lies on a cycle
abbrev pub IsRanking : List Edge → List ℕ → Type 0
IsRanking edges ranks = All (IsRanked edges ranks) edges

-- a node stands behind those that its edges lead to, but for edges on a cycle
abbrev pub IsAfter : List Edge → List ℕ → Type 0
IsAfter edges order =
    (e : Edge) → Contains edges e → ¬ IsOnCycle edges e
    → (i j : ℕ) → i < length order → j < length order
    → slice_index order i ≡ e.from → slice_index order j ≡ e.to → j < i

-- the rank of each node, and the nodes in an order
pub record Ranking : Type 0 where
  pub ranks : List ℕ
  pub order : List ℕ

-- ranks and an order as one
abbrev pub ranking : List ℕ → List ℕ → Ranking
ranking ranks order = record { ranks = ranks; order = order }

-- What nodes reach along at least one edge.
use Rattle.std.specs.Prelude.{◌≡◌, ◌<◌, ◌↔◌, ℕ, List, ◌∷◌, length, Some, slice_get, slice_index, Contains}
use Rattle.go_digraph_core.specs.declared.cycle.edge.Edge.{Edge}
use Rattle.go_digraph_core.specs.cycle.Cycle.{Leads}
use Rattle.go_digraph_core.specs.reach.Numbers.{Numbers}

-- some list of at least one edge leads from a to b
abbrev pub ReachesByEdges : List Edge → ℕ → ℕ → Type 0
ReachesByEdges edges a b = (e : Edge) × (es : List Edge) × Leads edges (e ∷ es) a b

-- the numbers are those of the nodes that a node reaches
abbrev pub AreReachedFrom : List Edge → ℕ → List ℕ → Type 0
AreReachedFrom edges a members = (b : ℕ) → Contains members b ↔ ReachesByEdges edges a b

-- for each node the set of what it reaches
abbrev pub AreReachSets : List Edge → List Numbers → Type 0
AreReachSets edges sets = (a : ℕ) (set : Numbers) → slice_get sets a ≡ Some set → AreReachedFrom edges a set.members

-- each edge ends at a node of the order, which stands before the node where the edge starts, if that is one of the order
abbrev pub EndsStandBefore : List Edge → List ℕ → Type 0
EndsStandBefore edges order =
    (e : Edge) → Contains edges e
    → Contains order e.to
    × ((i j : ℕ) → i < length order → j < length order → slice_index order i ≡ e.from → slice_index order j ≡ e.to → j < i)

-- the row of each node has the starts of the edges that end there, and nothing else
abbrev pub AreStarts : List Edge → List (List ℕ) → Type 0
AreStarts edges rows =
    (to : ℕ) (row : List ℕ) → slice_get rows to ≡ Some row
    → (from : ℕ) → Contains row from ↔ Contains edges (record { from = from; to = to })

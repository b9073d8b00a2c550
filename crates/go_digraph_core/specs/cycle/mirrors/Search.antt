-- A search along the edges: rows of edges by their start, and marks on what is reached.
use Rattle.std.specs.Prelude.{◌≡◌, ℕ, ◌+◌, ◌⊎◌, ◌↔◌, ◌==◌, Bool, true, false, not, List, [], ◌∷◌, ◌++◌, length, map, filter, slice_index_or, slice_set, All, Contains, count_by, Vec}
use Rattle.std.specs.List.{range_with_len}
use Rattle.std.specs.declared.alloc.Global.{Global}
use Rattle.go_digraph_core.specs.declared.cycle.edge.Edge.{Edge}
use Rattle.go_digraph_core.specs.cycle.Cycle.{Reaches}

-- the edge at a place
abbrev pub edge_at : List Edge → ℕ → Edge
edge_at edges k = slice_index_or edges k (record { from = 0; to = 0 })

-- the row at a place, and none past the end
abbrev pub row_at : List (Vec ℕ Global) → ℕ → List ℕ
row_at rows v = slice_index_or (map (λ r. r.items) rows) v []

-- the places of the edges that start at a node, in order
abbrev pub places_from : List Edge → ℕ → List ℕ
places_from edges v = filter (λ k. (edge_at edges k).from == v) (range_with_len 0 (length edges))

-- the row of each node holds the places of the edges that start there
abbrev pub AreRows : List Edge → List (Vec ℕ Global) → Type 0
AreRows edges rows = (v : ℕ) → row_at rows v ≡ places_from edges v

-- a node bears a mark
abbrev pub IsMarked : List Bool → ℕ → Type 0
IsMarked marks v = slice_index_or marks v false ≡ true

-- the marks are on what a reaches, and on nothing else
abbrev pub IsReach : List Edge → ℕ → List Bool → Type 0
IsReach edges a marks = (v : ℕ) → IsMarked marks v ↔ Reaches edges a v

-- how many nodes below a count are reached from a
abbrev pub IsReachCount : List Edge → ℕ → ℕ → ℕ → Type 0
IsReachCount edges count a n = (marks : List Bool) × (length marks ≡ count) × IsReach edges a marks × (n ≡ count_by (λ m. m) marks)

-- no row holds anything
abbrev pub AreEmpty : List (Vec ℕ Global) → Type 0
AreEmpty rows = (v : ℕ) → row_at rows v ≡ []

-- what a visit does: a node that bears a mark is left, another is marked and stacked
abbrev pub IsVisited : ℕ → List Bool → List Bool → List ℕ → List ℕ → Type 0
IsVisited node old new stack stack' =
    (IsMarked old node × (new ≡ old) × (stack' ≡ stack))
    ⊎ ((slice_index_or old node false ≡ false) × (new ≡ slice_set old node true) × (stack' ≡ stack ++ node ∷ []))

-- what a visit of the ends of edges at some places does: they bear marks, and those whose marks are new are stacked
pub record MarksRow (edges : List Edge) (places : List ℕ) (old new : List Bool) (stack stack' : List ℕ) : Type 0 where
  pub kept : (v : ℕ) → IsMarked old v → IsMarked new v
  pub ends : All (λ k. IsMarked new (edge_at edges k).to) places
  pub made : (v : ℕ) → IsMarked new v → IsMarked old v ⊎ (Contains stack' v × ((k : ℕ) × Contains places k × ((edge_at edges k).to ≡ v)))
  pub still : (v : ℕ) → Contains stack v → Contains stack' v
  pub marked : (v : ℕ) → Contains stack' v → Contains stack v ⊎ IsMarked new v
  pub count : count_by (λ m. not m) new + length stack' ≡ count_by (λ m. not m) old + length stack

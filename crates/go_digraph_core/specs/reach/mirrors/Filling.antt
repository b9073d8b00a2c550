-- How sets are filled, node by node.
use Rattle.std.specs.Prelude.{◌≡◌, ◌<◌, ◌↔◌, ◌⊎◌, ℕ, Bool, true, false, List, ◌++◌, length, slice_index, slice_index_or, All, Contains, Vec}
use Rattle.std.specs.declared.alloc.Global.{Global}
use Rattle.go_digraph_core.specs.declared.cycle.edge.Edge.{Edge}
use Rattle.go_digraph_core.specs.cycle.mirrors.Search.{row_at}
use Rattle.go_digraph_core.specs.reach.Numbers.{Numbers, no_numbers}
use Rattle.go_digraph_core.specs.reach.Reach.{AreReachedFrom}

-- the row of each node holds the ends of the edges that start there
abbrev pub AreEnds : List Edge → List (Vec ℕ Global) → Type 0
AreEnds edges rows = (v j : ℕ) → Contains (row_at rows v) j ↔ Contains edges (record { from = v; to = j })

-- what is in the set of a node, nothing past the end
abbrev pub members_at : List Numbers → ℕ → List ℕ
members_at sets v = (slice_index_or sets v (no_numbers 0)).members

-- these are the ends and what is in their sets
abbrev pub IsUnion : List ℕ → List Numbers → List ℕ → Type 0
IsUnion ends sets members =
    (k : ℕ) → Contains members k ↔ ((t : ℕ) × Contains ends t × ((k ≡ t) ⊎ Contains (members_at sets t) k))

-- the set of a node has what the node reaches
abbrev pub IsReachSetAt : List Edge → List Numbers → ℕ → Type 0
IsReachSetAt edges sets v = AreReachedFrom edges v (members_at sets v)

-- wherever a node stands among the nodes, the ends of its edges stand before it
abbrev pub EndsComeFirst : List Edge → List ℕ → Type 0
EndsComeFirst edges nodes =
    (e : Edge) → Contains edges e → (i : ℕ) → i < length nodes → slice_index nodes i ≡ e.from
    → (j : ℕ) × (j < i) × (slice_index nodes j ≡ e.to)

-- a node that bears a mark is one of the order
abbrev pub AreMarksIn : List ℕ → List Bool → Type 0
AreMarksIn order marks = (v : ℕ) → slice_index_or marks v false ≡ true → Contains order v

-- the nodes begin with the order, all behind it are below the count, and each number below the bound is among them
pub record Completes (order : List ℕ) (count bound : ℕ) (nodes : List ℕ) : Type 0 where
  pub others : List ℕ
  pub is : nodes ≡ order ++ others
  pub below : All (λ n. n < count) others
  pub all : (v : ℕ) → v < bound → Contains nodes v

-- What needs one another, and values of what does not lead back to itself. Nodes are numbers; each has a row of those that it needs.
use Rattle.std.specs.Prelude.{◌≡◌, ◌<◌, ℕ, zero, suc, List, [], ◌∷◌, ◌++◌, map, Option, Some, None, Vec, All, Contains, length, slice_index_or}
use Rattle.std.specs.declared.alloc.Global.{Global}
use Rattle.go_digraph_core.specs.declared.cycle.edge.Edge.{Edge}

abbrev pub rows_of : List (Vec ℕ Global) → List (List ℕ)
rows_of [] = []
rows_of (row ∷ rows) = row.items ∷ rows_of rows

-- the nodes that a node needs, none past the end
abbrev pub needed : List (List ℕ) → ℕ → List ℕ
needed rows a = slice_index_or rows a []

-- an edge from a node to each one of a row
abbrev pub edges_at : ℕ → List ℕ → List Edge
edges_at a row = map (λ b. record { from = a; to = b }) row

-- an edge for each node from a number on, and each one that it needs
abbrev pub edges_from : ℕ → List (List ℕ) → List Edge
edges_from a [] = []
edges_from a (row ∷ rows) = edges_at a row ++ edges_from (suc a) rows

-- each node needs nodes of the list
abbrev pub NeedsAreInside : List (List ℕ) → Type 0
NeedsAreInside rows = All (λ row. All (λ b. b < length rows) row) rows

-- the nodes on the path are those behind a, up to b, of which each needs the next
abbrev pub NeedsLead : List (List ℕ) → ℕ → List ℕ → ℕ → Type 0
NeedsLead rows a [] b = a ≡ b
NeedsLead rows a (c ∷ path) b = Contains (needed rows a) c × NeedsLead rows c path b

-- a leads to a node that leads back to itself
pub record IsEndless (rows : List (List ℕ)) (a : ℕ) : Type 0 where
  pub node : ℕ
  pub path : List ℕ
  pub leads : NeedsLead rows a path node
  pub first : ℕ
  pub around : List ℕ
  pub back : NeedsLead rows node (first ∷ around) node

-- each path from a, a in front, has at most n nodes
abbrev pub EndsWithin : List (List ℕ) → ℕ → ℕ → Type 0
EndsWithin rows zero a = ⊥
EndsWithin rows (suc n) a = (b : ℕ) → Contains (needed rows a) b → EndsWithin rows n b

-- what a table has for a node, none past its end
abbrev pub known_in : {V : Type 0} → List (Option V) → ℕ → Option V
known_in table a = slice_index_or table a None

-- a value looks at what its node needs alone
abbrev pub LooksAtNeeds : {V : Type 0} → List (List ℕ) → ((ℕ → Option V) → ℕ → V) → Type 0
LooksAtNeeds {V} rows value =
    (f g : ℕ → Option V) (a : ℕ) → ((b : ℕ) → Contains (needed rows a) b → f b ≡ g b) → value f a ≡ value g a

-- A table of values: a node that leads to none which leads back to itself has the value that follows from what the table has for those that
-- it needs, and its paths have at most as many nodes as there are; every other node has none.
pub record AreValues (V : Type 0) (rows : List (List ℕ)) (value : (ℕ → Option V) → ℕ → V) (table : List (Option V)) : Type 0 where
  pub as_many : length table ≡ length rows
  pub ends : (a : ℕ) (v : V) → known_in table a ≡ Some v → EndsWithin rows (length rows) a
  pub values : (a : ℕ) (v : V) → known_in table a ≡ Some v → v ≡ value (known_in table) a
  pub endless : (a : ℕ) → a < length rows → known_in table a ≡ None → IsEndless rows a

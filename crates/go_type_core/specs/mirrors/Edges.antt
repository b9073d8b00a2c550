-- The uses of types by one another as edges between their numbers.
use Rattle.std.specs.Prelude.{◌≡◌, ◌↔◌, ◌⊎◌, ℕ, suc, ◌<◌, Bool, true, false, List, [], ◌∷◌, ◌++◌, Option, Some, None, length, slice_get, slice_index_or, slice_set, Contains, if◌then◌else◌}
use Rattle.go_term_core.specs.decl_core.declared.keys.DeclKey.{DeclKey}
use Rattle.go_digraph_core.specs.declared.cycle.edge.Edge.{Edge}
use Rattle.go_digraph_core.specs.cycle.Cycle.{IsOnCycle}
use Rattle.go_table_core.specs.Entries.{Entry}
use Rattle.go_type_core.specs.Built.{direct_keys}
use Rattle.go_type_core.specs.mirrors.Numbers.{keys_of, number_of}

-- an edge to a number, before others
abbrev pub edge_to : ℕ → Option ℕ → List Edge → List Edge
edge_to i None es = es
edge_to i (Some j) es = record { from = i; to = j } ∷ es

-- edges from a number to those keys that have numbers
abbrev pub uses_from : List DeclKey → ℕ → List DeclKey → List Edge
uses_from keys i [] = []
uses_from keys i (k ∷ ks) = edge_to i (number_of keys k) (uses_from keys i ks)

-- the edges of entries that are numbered from a number on
abbrev pub all_uses : List DeclKey → ℕ → List Entry → List Edge
all_uses keys i [] = []
all_uses keys i (w ∷ ws) = uses_from keys i (direct_keys w.term) ++ all_uses keys (suc i) ws

-- an edge that starts at a number lies on a cycle
abbrev pub HasLoop : List Edge → List Edge → ℕ → Type 0
HasLoop all some i = (e : Edge) × Contains some e × (e.from ≡ i) × IsOnCycle all e

-- numbers that fall from each type without a mark to those that it uses directly
abbrev pub Falls : List Entry → List Bool → Type 0
Falls written marks =
    (rank : ℕ → ℕ)
    × ((i j : ℕ) (w : Entry) (k : DeclKey) → slice_get written i ≡ Some w → slice_index_or marks i false ≡ false → Contains (direct_keys w.term) k
    → number_of (keys_of written) k ≡ Some j → rank j < rank i)

-- the marks stand for the starts of some edges that lie on cycles
pub record MarksTo (all some : List Edge) (count : ℕ) (marks : List Bool) : Type 0 where
  pub as_many : length marks ≡ count
  pub each : (i : ℕ) → (slice_index_or marks i false ≡ true) ↔ HasLoop all some i

-- marks with one more, if it is to be
abbrev pub marks_if : List Bool → ℕ → Bool → List Bool
marks_if marks i b = if b then slice_set marks i true else marks

-- the same edges, however often each stands there
abbrev pub SameEdges : List Edge → List Edge → Type 0
SameEdges xs ys = (e : Edge) → Contains xs e ↔ Contains ys e

-- edges with others, however often each stands there
abbrev pub HasAlso : List Edge → List Edge → List Edge → Type 0
HasAlso old more new = (e : Edge) → Contains new e ↔ (Contains old e ⊎ Contains more e)

-- edges with those of a line, or as they were where the line was met last
abbrev pub LineAdded : List Edge → Option ℕ → ℕ → List Edge → List Edge → Type 0
LineAdded more met number old new = ((met ≡ Some number) × (new ≡ old)) ⊎ HasAlso old more new

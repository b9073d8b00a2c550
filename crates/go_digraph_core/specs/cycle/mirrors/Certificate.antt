-- What shows that ranks are right: for each node a root, which leads to the node and to which the node leads.
use Rattle.std.specs.Prelude.{◌≡◌, ℕ, ◌<◌, ◌⊎◌, ◌==◌, ◌&&◌, ◌||◌, if◌then◌else◌, nat_lt, Bool, true, false, IsTrue, List, length, map, fold, replicate, All, slice_index, slice_index_or, slice_set}
use Rattle.go_digraph_core.specs.declared.cycle.edge.Edge.{Edge}
use Rattle.go_digraph_core.specs.cycle.Cycle.{reversed}
use Rattle.go_digraph_core.specs.cycle.mirrors.Search.{edge_at}

-- whether a node is its own root or bears a mark
abbrev pub is_linked : List ℕ → List Bool → ℕ → Bool
is_linked roots marks v = (v == slice_index roots v) || slice_index_or marks v false

-- the marks with one at the end of an edge whose ends have one root and whose start is linked
abbrev pub marks_after : List ℕ → List Bool → Edge → List Bool
marks_after roots marks e =
    if (slice_index roots e.from == slice_index roots e.to) && is_linked roots marks e.from
    then slice_set marks e.to true
    else marks

-- the same for the edge at a place, if there is one
abbrev pub marks_after_place : List Edge → List ℕ → List Bool → ℕ → List Bool
marks_after_place edges roots marks place =
    if nat_lt place (length edges) then marks_after roots marks (edge_at edges place) else marks

-- the marks along the edges at some places in turn, from none
abbrev pub marks_along : List Edge → List ℕ → List ℕ → List Bool
marks_along edges roots places = fold (marks_after_place edges roots) (replicate (length roots) false) places

-- the ends of an edge have one rank and one root, its end is linked by the marks back, and its start by the marks out
abbrev pub IsTied : List ℕ → List ℕ → List Bool → List Bool → Edge → Type 0
IsTied ranks roots out back e =
    (slice_index ranks e.to ≡ slice_index ranks e.from)
    × (slice_index roots e.to ≡ slice_index roots e.from)
    × IsTrue (is_linked roots back e.to)
    × IsTrue (is_linked roots out e.from)

-- the ranks fall along the edge, or its ends are tied
abbrev pub Holds : List ℕ → List ℕ → List Bool → List Bool → Edge → Type 0
Holds ranks roots out back e = (slice_index ranks e.to < slice_index ranks e.from) ⊎ IsTied ranks roots out back e

-- each edge holds by the marks along the edges at the places `out`, and against those at the places `back`
abbrev pub IsCertificate : List Edge → List ℕ → List ℕ → List ℕ → List ℕ → Type 0
IsCertificate edges ranks roots out back =
    All (Holds ranks roots (marks_along edges roots out) (marks_along (map reversed edges) roots back)) edges

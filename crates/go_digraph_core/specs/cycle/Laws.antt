-- Laws of reaching and of cycles.
use Rattle.std.specs.Prelude.{ℕ, ◌<◌, ◌↔◌, List, ◌∷◌, All, Contains}
use Rattle.go_digraph_core.specs.declared.cycle.edge.Edge.{Edge}
use Rattle.go_digraph_core.specs.cycle.Cycle.{InRange, Leads, Reaches, IsOnCycle}

-- each node reaches itself
abbrev pub ReachIsReflexive : Type 0
ReachIsReflexive = (edges : List Edge) (a : ℕ) → Reaches edges a a

-- what is reached from what a node reaches, the node reaches
abbrev pub ReachIsTransitive : Type 0
ReachIsTransitive = (edges : List Edge) (a b c : ℕ) → Reaches edges a b → Reaches edges b c → Reaches edges a c

-- the start of an edge reaches its end
abbrev pub EdgeReachesItsEnd : Type 0
EdgeReachesItsEnd = (edges : List Edge) (e : Edge) → Contains edges e → Reaches edges e.from e.to

-- the nodes that a node below the count reaches are below it
abbrev pub ReachStaysInRange : Type 0
ReachStaysInRange = (edges : List Edge) (count a b : ℕ) → InRange count edges → a < count → Reaches edges a b → b < count

-- an edge lies on a cycle exactly where its ends reach one another
abbrev pub CycleReachesBothEnds : Type 0
CycleReachesBothEnds =
    (edges : List Edge) (e : Edge) → Contains edges e
    → (IsOnCycle edges e ↔ (Reaches edges e.to e.from × Reaches edges e.from e.to))

-- an edge lies on a cycle exactly where a list of edges begins with it and leads back to its start
abbrev pub CycleIsAWalk : Type 0
CycleIsAWalk =
    (edges : List Edge) (e : Edge) → Contains edges e
    → (IsOnCycle edges e ↔ ((es : List Edge) × Leads edges (e ∷ es) e.from e.from))

-- each edge of a list that leads from a node back to it lies on a cycle
abbrev pub ClosedWalkIsOnCycles : Type 0
ClosedWalkIsOnCycles = (edges es : List Edge) (a : ℕ) → Leads edges es a a → All (IsOnCycle edges) es

-- what is reached along some edges is reached along more, and what lies on a cycle of them lies on one of more
abbrev pub MoreEdgesReachMore : Type 0
MoreEdgesReachMore =
    (edges more : List Edge) → All (Contains more) edges
    → ((a b : ℕ) → Reaches edges a b → Reaches more a b) × ((e : Edge) → IsOnCycle edges e → IsOnCycle more e)

-- where numbers of the nodes fall along each edge, no edge lies on a cycle
abbrev pub FallingMeansNoCycle : Type 0
FallingMeansNoCycle =
    (edges : List Edge) (number : ℕ → ℕ) → All (λ e. number e.to < number e.from) edges
    → All (λ e. ¬ IsOnCycle edges e) edges

-- What the steps of a plan give: standings, targets, edges.
use Rattle.std.specs.Prelude.{◌≡◌, ℕ, ◌⊎◌, Bool, true, false, suc, List, [], ◌∷◌, ◌++◌, Option, Some, None, slice_get, Contains}
use Rattle.std.specs.List.{AllZip, flat_map}
use Rattle.std.specs.declared.vec.Vec.{Vec}
use Rattle.go_collections_core.specs.text_core.declared.rule.Rule.TheVariants.{I4}
use Rattle.go_digraph_core.specs.declared.cycle.edge.Edge.{Edge}
use Rattle.go_digraph_core.specs.cycle.Cycle.{IsOnCycle, IsRanking}
use Rattle.go_graph_core.specs.declared.imports.ImportOutcome.{ImportOutcome}
use Rattle.go_graph_core.specs.declared.imports.ImportOutcome.TheVariants.{Package, Refused}
use Rattle.go_graph_core.specs.declared.imports.Standing.{Standing}
use Rattle.go_graph_core.specs.declared.imports.Standing.TheVariants.{Library, Main, Faulty}
use Rattle.go_graph_core.specs.Lists.{AllNumbered}
use Rattle.go_graph_core.specs.Workspaces.{PackageModel}
use Rattle.go_graph_core.specs.Imports.{AreFaulty, AreMain, AreLibrary, IsTarget, import_texts, edge}

-- what a package is to those that import it
abbrev pub IsStanding : PackageModel → Standing → Type 0
IsStanding p Library = AreLibrary p.1
IsStanding p Main = AreMain p.1
IsStanding p Faulty = AreFaulty p.1

abbrev pub HaveStandings : List PackageModel → List Standing → Type 0
HaveStandings ps standings = AllZip IsStanding ps standings

-- outcomes are added, one for each text
abbrev pub Adds : (List ℕ → ImportOutcome → Type 0) → List (List ℕ) → List ImportOutcome → List ImportOutcome → Type 0
Adds R texts old new = (more : List ImportOutcome) × (new ≡ old ++ more) × AllZip R texts more

-- what the imports of a package come to, cycles left aside
abbrev pub ArePackageTargets : {S : Type 0} → List PackageModel → PackageModel → List (Vec ImportOutcome S) → Type 0
ArePackageTargets ps p targets = AllZip (λ f os. AllZip (IsTarget ps p.0) (import_texts f) os.items) p.1 targets

-- what all imports come to, cycles left aside
abbrev pub AreTargets : {S : Type 0} → List PackageModel → List (Vec (Vec ImportOutcome S) S) → Type 0
AreTargets ps targets = AllZip (λ p os. ArePackageTargets ps p os.items) ps targets

-- the edge of an import, if it breaks no rule
abbrev pub edge_of : ℕ → ImportOutcome → List Edge
edge_of from (Package to) = edge from to ∷ []
edge_of from (Refused rule) = []

-- the edges of a package
abbrev pub package_edges : {S : Type 0} → ℕ → List (Vec ImportOutcome S) → List Edge
package_edges from files = flat_map (λ os. flat_map (edge_of from) os.items) files

-- the edges of packages, whose numbers begin with this
abbrev pub edges_from : {S : Type 0} → ℕ → List (Vec (Vec ImportOutcome S) S) → List Edge
edges_from k [] = []
edges_from k (p ∷ ps) = package_edges k p.items ++ edges_from (suc k) ps

-- an import is refused if it lies on a cycle of the edges, and names its package if not
abbrev pub Settles : List Edge → ℕ → ℕ → ImportOutcome → Type 0
Settles edges from to outcome =
    ((outcome ≡ Refused I4) × IsOnCycle edges (edge from to)) ⊎ ((outcome ≡ Package to) × (IsOnCycle edges (edge from to) → ⊥))

-- what an import comes to by the ranks of the packages, from what it comes to with cycles left aside
abbrev pub IsSettled : List ℕ → ℕ → ImportOutcome → ImportOutcome → Type 0
IsSettled ranks from (Refused rule) outcome = outcome ≡ Refused rule
IsSettled ranks from (Package to) outcome = (edges : List Edge) → IsRanking edges ranks → Contains edges (edge from to) → Settles edges from to outcome

-- the same for the files of a package
abbrev pub AreSettled : {S : Type 0} → List ℕ → ℕ → List (Vec ImportOutcome S) → List (Vec ImportOutcome S) → Type 0
AreSettled ranks from targets outcomes = AllZip (λ ts os. AllZip (IsSettled ranks from) ts.items os.items) targets outcomes

-- the same for all packages
abbrev pub AreAllSettled : {S : Type 0} → List ℕ → List (Vec (Vec ImportOutcome S) S) → List (Vec (Vec ImportOutcome S) S) → Type 0
AreAllSettled ranks targets outcomes = AllNumbered (λ k ts os. AreSettled ranks k ts.items os.items) 0 targets outcomes

-- whether a package is assembled, by its standing
abbrev pub is_sound : Option Standing → Bool
is_sound None = false
is_sound (Some Library) = true
is_sound (Some Main) = true
is_sound (Some Faulty) = false

abbrev pub is_assembled : List Standing → ℕ → Bool
is_assembled standings i = is_sound (slice_get standings i)

-- How a search along the imports goes: marks on the packages that it met, and the numbers of those that it has still to go through.
use Rattle.std.specs.Prelude.{◌≡◌, ◌+◌, ◌⊎◌, ℕ, Bool, true, false, not, List, [], ◌∷◌, ◌++◌, length, slice_index_or, slice_set, All, Contains, count_by}
use Rattle.go_tree_nodes.specs.declared.files.ImportLine.{ImportLine}
use Rattle.go_tree_nodes.specs.Terminals.{value_of}
use Rattle.go_digraph_core.specs.declared.cycle.edge.Edge.{Edge}
use Rattle.go_digraph_core.specs.cycle.Cycle.{Reaches}
use Rattle.go_graph_core.specs.declared.imports.ImportOutcome.TheVariants.{Package}
use Rattle.go_graph_core.specs.Imports.{IsEdge, IsNumbered, IsTarget}
use Rattle.go_graph_core.specs.Sources.{SourceModel}
use Rattle.go_graph_core.specs.Workspaces.{PackageModel}

-- a package bears a mark
abbrev pub IsMarked : List Bool → ℕ → Type 0
IsMarked marks v = slice_index_or marks v false ≡ true

-- the package of a text, if there is one, bears a mark
abbrev pub IsMet : List PackageModel → List ℕ → List Bool → Type 0
IsMet ps text marks = (to : ℕ) (files : List SourceModel) → IsNumbered ps text to files → IsMarked marks to

-- what the visit of one package does: where it bears a mark, nothing; else it is marked and has still to be gone through
abbrev pub IsVisited : ℕ → List Bool → List Bool → List ℕ → List ℕ → Type 0
IsVisited node old new stack after =
    (IsMarked old node × (new ≡ old) × (after ≡ stack))
    ⊎ ((slice_index_or old node false ≡ false) × (new ≡ slice_set old node true) × (after ≡ stack ++ node ∷ []))

-- what the visit of those packages does that P holds of: they bear marks, and those whose marks are new have still to be gone through
pub record Visits (P : ℕ → Type 0) (old new : List Bool) (stack after : List ℕ) : Type 0 where
  pub kept : (v : ℕ) → IsMarked old v → IsMarked new v
  pub done : (v : ℕ) → P v → IsMarked new v
  pub made : (v : ℕ) → IsMarked new v → IsMarked old v ⊎ (Contains after v × P v)
  pub still : (v : ℕ) → Contains stack v → Contains after v
  pub marked : (v : ℕ) → Contains after v → Contains stack v ⊎ IsMarked new v
  pub count : count_by (λ m. not m) new + length after ≡ count_by (λ m. not m) old + length stack

-- an import of one of these texts, in the package of a path, comes to a package, cycles left aside
abbrev pub IsTargetOf : List PackageModel → List ℕ → List (List ℕ) → ℕ → Type 0
IsTargetOf ps q texts to = (text : List ℕ) × Contains texts text × IsTarget ps q text (Package to)

-- the text of an import in parentheses
abbrev pub line_texts : ImportLine → List (List ℕ)
line_texts line = value_of line.spec.path ∷ []

-- some edges of the packages lead from one to another
abbrev pub IsLed : List PackageModel → ℕ → ℕ → Type 0
IsLed ps a b = (edges : List Edge) × All (IsEdge ps) edges × Reaches edges a b

-- Which imports would lie on a cycle.
use Rattle.std.specs.Prelude.{◌≡◌, ◌<◌, ◌↔◌, ℕ, Bool, true, false, List, length, slice_index_or, ⊤}
use Rattle.go_path_core.specs.text_core.declared.rule.Rule.TheVariants.{I4}
use Rattle.go_graph_core.specs.declared.imports.ImportOutcome.{ImportOutcome}
use Rattle.go_graph_core.specs.declared.imports.ImportOutcome.TheVariants.{Package, Refused}
use Rattle.go_graph_core.specs.Imports.{LiesOnCycle, edge}
use Rattle.go_graph_core.specs.Workspaces.{PackageModel}

-- a mark is set exactly where an import of the package of its number, in that of this one, would lie on a cycle
abbrev pub MarkCycles : List PackageModel → ℕ → List Bool → Type 0
MarkCycles ps own marks = (n : ℕ) → (slice_index_or marks n false ≡ true) ↔ LiesOnCycle ps (edge own n)

-- an import that comes to a package comes to one of these
abbrev pub IsWithin : List PackageModel → ImportOutcome → Type 0
IsWithin ps (Package number) = number < length ps
IsWithin ps (Refused rule) = ⊤

-- what an import comes to, by what it comes to with cycles left aside
abbrev pub Settles : List PackageModel → ℕ → ImportOutcome → ImportOutcome → Type 0
Settles ps own (Refused rule) (Package j) = ⊥
Settles ps own (Refused rule) (Refused other) = other ≡ rule
Settles ps own (Package i) (Package j) = (j ≡ i) × ¬ LiesOnCycle ps (edge own i)
Settles ps own (Package i) (Refused rule) = (rule ≡ I4) × LiesOnCycle ps (edge own i)

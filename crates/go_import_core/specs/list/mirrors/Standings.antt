-- What a package is to those that import it.
use Rattle.std.specs.Prelude.{◌≡◌, ◌⊎◌, ℕ, Bool, true, false, List, Some, slice_get}
use Rattle.go_path_core.specs.text_core.declared.rule.Rule.TheVariants.{I5, I6}
use Rattle.go_path_core.specs.Path.{MayImport, elements}
use Rattle.go_graph_core.specs.declared.imports.ImportOutcome.{ImportOutcome}
use Rattle.go_graph_core.specs.declared.imports.ImportOutcome.TheVariants.{Package, Refused}
use Rattle.go_graph_core.specs.Imports.{AreFaulty, AreLibrary, AreMain}
use Rattle.go_graph_core.specs.Workspaces.{PackageModel}
use Rattle.go_import_core.specs.declared.list.standing.Standing.{Standing}
use Rattle.go_import_core.specs.declared.list.standing.Standing.TheVariants.{Faulty, Library, Main}

abbrev pub IsStanding : PackageModel → Standing → Type 0
IsStanding p Library = AreLibrary p.1
IsStanding p Main = AreMain p.1
IsStanding p Faulty = AreFaulty p.1

-- an import of a package in that of a path comes to it, cycles left aside
abbrev pub MayUse : List ℕ → PackageModel → Type 0
MayUse q p = MayImport (elements q) (elements p.0) × AreLibrary p.1

-- the same of an import that breaks no rule by its path
abbrev pub ComesTo : List PackageModel → ℕ → ImportOutcome → Type 0
ComesTo ps number (Package i) = (i ≡ number) × ((p : PackageModel) × (slice_get ps number ≡ Some p) × AreLibrary p.1)
ComesTo ps number (Refused rule) = (p : PackageModel) × (slice_get ps number ≡ Some p) × (((rule ≡ I6) × AreFaulty p.1) ⊎ ((rule ≡ I5) × AreMain p.1))

-- whether an import of a package of a standing comes to it
abbrev pub is_library : Standing → Bool
is_library Library = true
is_library Main = false
is_library Faulty = false

-- what an import of the package of a number comes to, by its standing
abbrev pub outcome_by : Standing → ℕ → ImportOutcome
outcome_by Library number = Package number
outcome_by Main number = Refused I5
outcome_by Faulty number = Refused I6

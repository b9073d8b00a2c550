-- What an import that a package may lack would come to.
--
-- The Go specification, "Import declarations".
use Rattle.std.specs.Prelude.{ℕ, List}
use Rattle.go_graph_core.specs.declared.imports.ImportOutcome.{ImportOutcome}
use Rattle.go_graph_core.specs.declared.imports.ImportOutcome.TheVariants.{Package}
use Rattle.go_graph_core.specs.Imports.{IsJudged, IsNumbered}
use Rattle.go_graph_core.specs.Sources.{SourceModel}
use Rattle.go_graph_core.specs.Workspaces.{PackageModel}

-- an import of a text in the package of a number comes to this, whether the package has it or not
pub record IsJudgedAt (ps : List PackageModel) (own : ℕ) (text : List ℕ) (outcome : ImportOutcome) : Type 0 where
  pub path : List ℕ
  pub files : List SourceModel
  pub importer : IsNumbered ps path own files
  pub judged : IsJudged ps own path text outcome

-- an import of the package of a number in that of another comes to it
pub record IsImportable (ps : List PackageModel) (own number : ℕ) : Type 0 where
  pub path : List ℕ
  pub files : List SourceModel
  pub numbered : IsNumbered ps path number files
  pub judged : IsJudgedAt ps own path (Package number)

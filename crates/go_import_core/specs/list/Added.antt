-- An import that is added to a package.
use Rattle.std.specs.Prelude.{◌≡◌, ◌≢◌, ◌↔◌, ◌++◌, ℕ, List, [], ◌∷◌, Some, length, slice_get}
use Rattle.go_tree_nodes.specs.declared.names.Ident.{Ident}
use Rattle.go_graph_core.specs.declared.imports.ImportAt.{ImportAt}
use Rattle.go_graph_core.specs.declared.imports.ImportOutcome.{ImportOutcome}
use Rattle.go_graph_core.specs.Imports.{IsNumbered, IsOutcome, import_texts}
use Rattle.go_graph_core.specs.Packages.{IsAssembled, IsClause, IsNameOf}
use Rattle.go_graph_core.specs.Sources.{SourceModel}
use Rattle.go_graph_core.specs.Workspaces.{PackageModel}
use Rattle.go_import_core.specs.list.Importing.{IsJudgedAt}

-- the assembled package of a number has one file more, behind its others, with the package's name and one import, of a text; all other packages are
-- the same
pub record AddsImport (ps : List PackageModel) (own : ℕ) (text : List ℕ) (more : List PackageModel) : Type 0 where
  pub path : List ℕ
  pub files : List SourceModel
  pub importer : IsNumbered ps path own files
  pub assembled : IsAssembled files
  pub file : SourceModel
  pub texts : import_texts file ≡ text ∷ []
  pub clause : Ident
  pub has_clause : IsClause file clause
  pub named : IsNameOf clause.name files
  pub here : slice_get more own ≡ Some (path, files ++ file ∷ [])
  pub others : (i : ℕ) → i ≢ own → slice_get more i ≡ slice_get ps i

-- the place of the import
abbrev pub added_at : ℕ → List SourceModel → ImportAt
added_at own files = record { «package» = own; file = length files; import = 0 }

-- what an import would come to is what it comes to once it is there
abbrev pub AddedImportsAreJudged : Type 0
AddedImportsAreJudged =
    (ps more : List PackageModel) (own : ℕ) (text : List ℕ) (h : AddsImport ps own text more) (outcome : ImportOutcome)
    → IsOutcome more (added_at own h.files) outcome ↔ IsJudgedAt ps own text outcome

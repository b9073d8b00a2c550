-- A file as the one file of the one package of a workspace, and what stands in it.
--
-- docs/RULES.md, "Packages", "Imports", "Output". The Go specification, "Packages", "Import declarations".
use Rattle.std.specs.Prelude.{◌≡◌, ℕ, List, [], ◌∷◌, Ok, codes}
use Rattle.go_tree_nodes.specs.Trees.{FileTree}
use Rattle.go_block_core.specs.graph_core.declared.imports.ImportAt.{ImportAt}
use Rattle.go_block_core.specs.graph_core.declared.imports.ImportOutcome.TheVariants as outcomes
use Rattle.go_block_core.specs.graph_core.Imports.{IsOutcome}
use Rattle.go_block_core.specs.graph_core.Sources.{SourceModel, source}
use Rattle.go_block_core.specs.graph_core.Workspaces.{PackageModel}
use Rattle.go_block_core.specs.declared.imports.Imported.{Imported}
use Rattle.go_block_core.specs.declared.imports.Imported.TheVariants as given
use Rattle.go_block_core.specs.Naming.{AreInFile}
use Rattle.go_package_core.specs.package_part.Inputs.{input_with}
use Rattle.go_package_core.specs.package_part.Parts.{ContentOf, FileOf, IsPart}

-- the path of the package, and the name of the file
abbrev pub the_path : List ℕ
the_path = codes "local"

abbrev pub the_name : List ℕ
the_name = codes "in.go"

-- the package whose one file this is
abbrev pub package_alone : SourceModel → PackageModel
package_alone s = (the_path, s ∷ [])

abbrev pub workspace_alone : SourceModel → List PackageModel
workspace_alone s = package_alone s ∷ []

-- the file with this text and this tree
abbrev pub file_alone : List ℕ → FileTree → SourceModel
file_alone bytes f = source the_name bytes (Ok f)

-- an import comes to the rule that it breaks: of the workspace's one package no import comes to a package, since one of its own path lies on a cycle
abbrev pub ImportIsRefused : List PackageModel → ImportAt → Imported → Type 0
ImportIsRefused ps at (given.Refused rule) = IsOutcome ps at (outcomes.Refused rule)
ImportIsRefused ps at (given.«Package» e) = ⊥

-- what the imports of the file come to, in order of place
abbrev pub ImportsAreRefused : SourceModel → FileTree → List Imported → Type 0
ImportsAreRefused s f imports = AreInFile (ImportIsRefused (workspace_alone s)) 0 0 f imports

-- what stands in the file with this text and this tree: what its package has by its imports and by itself, where it reaches no other package
pub record StandsInFile (bytes : List ℕ) (f : FileTree) (found : FileOf) : Type 0 where
  pub imports : List Imported
  pub refused : ImportsAreRefused (file_alone bytes f) f imports
  pub content : ContentOf
  pub part : IsPart (input_with (package_alone (file_alone bytes f)) (imports ∷ []) []) content
  pub files : content.files ≡ found ∷ []

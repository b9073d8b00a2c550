-- How the one package of a run is made, and what is told of it.
use Rattle.std.specs.Prelude.{◌≡◌, ◌<◌, ℕ, Bool, List, [], ◌∷◌, Some, Ok, length}
use Rattle.go_path_core.specs.text_core.declared.rule.Rule.{Rule}
use Rattle.go_tree_nodes.specs.Trees.{FileTree}
use Rattle.go_block_core.specs.graph_core.declared.imports.ImportAt.{ImportAt}
use Rattle.go_block_core.specs.graph_core.declared.imports.ImportOutcome.{ImportOutcome}
use Rattle.go_block_core.specs.graph_core.declared.imports.ImportOutcome.TheVariants as outcomes
use Rattle.go_block_core.specs.graph_core.Plans.{outcome_at}
use Rattle.go_block_core.specs.graph_core.Sources.{SourceModel, IsRead}
use Rattle.go_block_core.specs.graph_core.Workspaces.{PackageModel}
use Rattle.go_block_core.specs.declared.imports.Imported.{Imported}
use Rattle.go_block_core.specs.declared.imports.Imported.TheVariants as given
use Rattle.go_block_core.specs.Naming.{AreInFile, file_specs, import_at}
use Rattle.go_package_core.specs.prepare.Packages.{trees_in}
use Rattle.go_package_core.specs.package_part.Inputs.{InputModel, input_with}
use Rattle.go_package_core.specs.package_part.Parts.{ContentOf, FileOf, IsPart}
use Rattle.govisd_resolve.specs.told_lines.Lines.{file_lines}
use Rattle.govisd_resolve.specs.Alone.{ImportIsRefused, package_alone, the_name, workspace_alone}
use Rattle.govisd_resolve.specs.Reports.{has_no_items}

-- a workspace whose one package has this one file, which is read
pub record IsAlone (s : SourceModel) (ps : List PackageModel) : Type 0 where
  pub name : s.name ≡ the_name
  pub read : IsRead s
  pub is : ps ≡ workspace_alone s

-- the same, and the file has this text
pub record HasText (bytes : List ℕ) (ps : List PackageModel) : Type 0 where
  pub file : SourceModel
  pub text : file.text ≡ bytes
  pub alone : IsAlone file ps

-- the package is that of the workspace, and its one file has this tree
pub record IsOwn (ps : List PackageModel) (p : PackageModel) (f : FileTree) : Type 0 where
  pub file : SourceModel
  pub alone : IsAlone file ps
  pub is : p ≡ package_alone file
  pub tree : file.content ≡ Ok f

-- the import at a place is refused by a plan
pub record IsRefusedIn (os : List (List (List ImportOutcome))) (at : ImportAt) : Type 0 where
  pub rule : Rule
  pub is : outcome_at os at ≡ Some (outcomes.Refused rule)

-- each import of the one file is
abbrev pub AreRefusedIn : List (List (List ImportOutcome)) → FileTree → Type 0
AreRefusedIn os f = (n : ℕ) → n < length (file_specs f) → IsRefusedIn os (import_at 0 0 n)

-- what is given for it is its rule
abbrev pub IsGivenIn : List (List (List ImportOutcome)) → ImportAt → Imported → Type 0
IsGivenIn os at (given.Refused rule) = outcome_at os at ≡ Some (outcomes.Refused rule)
IsGivenIn os at (given.«Package» e) = ⊥

-- what the imports of the one file come to, as those of the files of its package
pub record AreRefusedAlone (ps : List PackageModel) (f : FileTree) (files : List (List Imported)) : Type 0 where
  pub imports : List Imported
  pub refused : AreInFile (ImportIsRefused ps) 0 0 f imports
  pub are : files ≡ imports ∷ []

-- the input of the package, by what its file's imports come to
pub record IsInputIn (ps : List PackageModel) (p : PackageModel) (f : FileTree) (i : InputModel) : Type 0 where
  pub imports : List Imported
  pub refused : AreInFile (ImportIsRefused ps) 0 0 f imports
  pub is : i ≡ input_with p (imports ∷ []) []

-- an input of a package of one file
pub record HasOneFile (i : InputModel) : Type 0 where
  pub tree : FileTree
  pub trees : trees_in i.source ≡ tree ∷ []

-- what is told of the one file of a package, which its part has
pub record IsTold (name : List ℕ) (f : FileTree) (i : InputModel) (clean : Bool) (text : List ℕ) : Type 0 where
  pub content : ContentOf
  pub part : IsPart i content
  pub file : FileOf
  pub files : content.files ≡ file ∷ []
  pub says : clean ≡ has_no_items file.report
  pub writes : text ≡ file_lines name f file.answers.uses file.answers.faults

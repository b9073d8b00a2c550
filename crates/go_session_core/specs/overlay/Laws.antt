-- What an edit changes, in the words of files and texts.
use Rattle.std.specs.Prelude.{◌≡◌, ◌≢◌, ◌⊎◌, ◌↔◌, ℕ, List, Option, Some, Contains}
use Rattle.go_graph_core.specs.Sources.{SourceModel}
use Rattle.go_graph_core.specs.Workspaces.{PackageModel, files_at, texts_of_files}
use Rattle.go_session_core.specs.overlay.Edits.{IsEdited}

-- in the package of a path a file of this name has this text
pub record HasText (ps : List PackageModel) (path name text : List ℕ) : Type 0 where
  pub files : List SourceModel
  pub of_package : files_at ps path ≡ Some files
  pub there : Contains (texts_of_files files) (name, text)

-- the file of the name has then the text, or none; all other files have the texts that they had
pub record ChangesOneFile (old : List PackageModel) (path name : List ℕ) (text : Option (List ℕ)) (new : List PackageModel) : Type 0 where
  pub here : (t : List ℕ) → HasText new path name t ↔ (text ≡ Some t)
  pub others : (p n t : List ℕ) → (p ≢ path) ⊎ (n ≢ name) → HasText new p n t ↔ HasText old p n t

-- an edit changes that file alone
abbrev pub EditsChangeOneFile : Type 0
EditsChangeOneFile = (old new : List PackageModel) (path name : List ℕ) (text : Option (List ℕ)) → IsEdited old path name text new → ChangesOneFile old path name text new

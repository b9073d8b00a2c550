-- What comes of the reading of a folder.
use Rattle.std.specs.Prelude.{◌≡◌, ◌⊎◌, ℕ, Bool, true, false, List, [], ◌++◌, Option, Some, None, codes, string_bytes, unwrap_or, if◌then◌else◌}
use Rattle.std.specs.Path.{path_file_name}
use Rattle.std.specs.declared.io.ErrorKind.{ErrorKind}
use Rattle.go_path_core.specs.text_core.declared.rule.Rule.TheVariants.{E2, O2}
use Rattle.go_path_core.specs.Path.{IsPath}
use Rattle.go_folder_core.specs.Named.{IsNamedFolder}
use Rattle.go_graph_core.specs.Workspaces.{PackageModel}
use Rattle.govisd_disk.specs.declared.finding.ReadFolder.{ReadFolder}
use Rattle.govisd_disk.specs.declared.finding.ReadFolder.TheVariants as read
use Rattle.govisd_disk.specs.Notes.{note_line, passed_line, refusal_line, name_or_quotes, wants_memory}
use Rattle.govisd_disk.specs.Puts.{ArePut, FolderModel}
use Rattle.govisd_disk.specs.Scopes.{ScopeModel, has_any}

-- there is no package, for what is said; or there are these of a module, with the part of it that is told of, and with what was left out and passed over
pub data ReadModel : Type 0 where
  Refused : (said : List ℕ) → ReadModel
  Found : (own : List ℕ) (packages : List PackageModel) (scope : ScopeModel) (notes passed : List ℕ) → ReadModel

abbrev pub read_shown : ReadFolder → ReadModel
read_shown (read.Refused said) = Refused (string_bytes said)
read_shown (read.Found p) = Found (string_bytes p.module_path) p.workspace (string_bytes p.told, string_bytes p.file) (string_bytes p.notes) (string_bytes p.passed)

-- why there is nothing of what has a name
abbrev pub refused_line : List ℕ → List ℕ → List ℕ
refused_line name why = note_line (name_or_quotes name) why

-- it is said why the folder cannot be read, which is not that memory was wanting
pub record IsUnread (folder : List ℕ) (kind : ErrorKind) (r : ReadModel) : Type 0 where
  pub other : wants_memory kind ≡ false
  pub why : List ℕ
  pub is : r ≡ Refused (refused_line folder why)

-- what comes of a workspace; where it has no file that is told of, what was asked for is refused after what was left out and passed over
abbrev pub read_on : List ℕ → List ℕ → List PackageModel → ScopeModel → List ℕ → List ℕ → ReadModel
read_on folder own ps scope notes passed =
    if has_any scope ps then Found own ps scope notes passed else Refused ((notes ++ passed) ++ refused_line folder (codes "no Go files to check"))

-- what comes of folders that were found, where this is said of what could not be read, and this of what was passed over
pub record IsReadFor (folder own : List ℕ) (scope : ScopeModel) (found : List FolderModel) (left passed : List ℕ) (r : ReadModel) : Type 0 where
  pub packages : List PackageModel
  pub notes : List ℕ
  pub put : ArePut own found ([], left) (packages, notes)
  pub is : r ≡ read_on folder own packages scope notes passed

-- some folders were read as those of a module, with how many Go files and folders were passed over
pub record IsOfFolders (folder own : List ℕ) (scope : ScopeModel) (r : ReadModel) : Type 0 where
  pub path : IsPath own
  pub found : List FolderModel
  pub left : List ℕ
  pub files : ℕ
  pub folders : ℕ
  pub read : IsReadFor folder own scope found left (passed_line files folders) r

-- how the path of a module can be given
abbrev pub module_hint : List ℕ
module_hint = refused_line (codes "--module") (codes "gives the path of the module, as in --module example.com/mine")

-- what is said where a path is none of a module
abbrev pub no_module_text : List ℕ → List ℕ
no_module_text own = refusal_line (name_or_quotes own) O2 ++ module_hint

-- what comes of a folder as that of a module: its path is none, and is refused, or folders were read
abbrev pub IsReadAs : List ℕ → List ℕ → ScopeModel → ReadModel → Type 0
IsReadAs folder own scope r = ((¬ IsPath own) × (r ≡ Refused (no_module_text own))) ⊎ IsOfFolders folder own scope r

-- the name of the folder at a path, which is the path's last component; no bytes, where it has none
abbrev pub folder_name : List ℕ → List ℕ
folder_name root = unwrap_or (path_file_name root) []

-- what comes of the folder at a path where the path of the module is not given, of a file in it or of all: a `go.mod` is refused, and that is said; or it
-- names a module, which is read, and the package of the folder has some path in it; or there is none, and the module has the name of the folder
pub data IsIn (folder root file : List ℕ) (r : ReadModel) : Type 0 where
  ByNoModule : (said : List ℕ) → r ≡ Refused (said ++ module_hint) → IsIn folder root file r
  ByModule : (own told : List ℕ) → IsReadAs folder own (told, file) r → IsIn folder root file r
  ByName : IsReadAs folder (folder_name root) (folder_name root, file) r → IsIn folder root file r

-- the path of the module is the one that is given, if one is
abbrev pub IsReadRoot : List ℕ → List ℕ → List ℕ → Option (List ℕ) → ReadModel → Type 0
IsReadRoot folder root file (Some own) r = IsReadAs folder own (own, file) r
IsReadRoot folder root file None r = IsIn folder root file r

-- what was asked for cannot be read, or is neither a folder nor a file that is checked, or a file whose name is none of a source file; or this is what comes of
-- the folder at some path, and of a file in it or of all. Which path that is, without links and from the root, is the file system's to say
pub data IsReadNamed (folder : List ℕ) (given : Option (List ℕ)) (r : ReadModel) : Type 0 where
  ByUnread : (kind : ErrorKind) → IsUnread folder kind r → IsReadNamed folder given r
  ByOther : r ≡ Refused (refused_line folder (codes "this is no folder, and no Go file that is checked")) → IsReadNamed folder given r
  ByBadName : r ≡ Refused (refusal_line folder E2) → IsReadNamed folder given r
  ByRoot : (root file : List ℕ) → IsReadRoot folder root file given r → IsReadNamed folder given r

-- what comes of the folder or the file that a word names
abbrev pub IsReadOf : List ℕ → Option (List ℕ) → ReadModel → Type 0
IsReadOf word given r = (folder : List ℕ) × IsNamedFolder word folder × IsReadNamed folder given r

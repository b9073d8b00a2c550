-- From folders with source files to a workspace.
use Rattle.std.specs.Prelude.{◌≡◌, ◌+◌, ◌⊎◌, ℕ, List, [], ◌∷◌, ◌++◌, All, Option, Some, None, drop, length, string_bytes, take}
use Rattle.std.specs.declared.string.String.{String}
use Rattle.go_path_core.specs.text_core.declared.rule.Rule.TheVariants.{E1}
use Rattle.go_path_core.specs.Path.{IsPath}
use Rattle.go_folder_core.specs.Folders.{joined_path}
use Rattle.go_graph_core.specs.Workspaces.{HaveDistinctNames, PackageModel, Puts, given_files}
use Rattle.govisd_disk.specs.declared.groups.Group.{Group}
use Rattle.govisd_disk.specs.declared.reading.FolderFiles.{FolderFiles}
use Rattle.govisd_disk.specs.Notes.{refusal_line}

-- the path that a text writes, or none
abbrev pub IsPathOf : List ℕ → Option (List ℕ) → Type 0
IsPathOf text None = ¬ IsPath text
IsPathOf text (Some path) = (path ≡ text) × IsPath text

-- the path of a folder from the one that is checked, and the names and texts of its source files
abbrev pub FolderModel : Type 0
FolderModel = List ℕ × List (List ℕ × List ℕ)

-- what was read of a folder
abbrev pub folder_of : FolderFiles → FolderModel
folder_of f = (string_bytes f.folder, given_files f.files.entries)

-- a workspace so far, and what is said beside
abbrev pub StateModel : Type 0
StateModel = List PackageModel × List ℕ

-- the files of a folder are put as those of the package of its path below the module; where that is no path, it is said that they are left out
abbrev pub IsPut : List ℕ → FolderModel → StateModel → StateModel → Type 0
IsPut own f old new =
    (IsPath (joined_path own f.0) × Puts old.0 (joined_path own f.0) f.1 new.0 × (new.1 ≡ old.1))
    ⊎ ((¬ IsPath (joined_path own f.0)) × (new.0 ≡ old.0) × (new.1 ≡ old.1 ++ refusal_line f.0 E1))

-- those of folders, one after another
abbrev pub ArePut : List ℕ → List FolderModel → StateModel → StateModel → Type 0
ArePut own [] old new = new ≡ old
ArePut own (f ∷ fs) old new = (between : StateModel) × IsPut own f old between × ArePut own fs between new

-- each folder has as many of the files as are counted for it, in order
abbrev pub counted_folders : {Y : Type 0} → List (String Y × ℕ) → List (List ℕ × List ℕ) → List FolderModel
counted_folders [] files = []
counted_folders (f ∷ fs) files = (string_bytes f.0, take f.1 files) ∷ counted_folders fs (drop f.1 files)

-- how many files are counted for all
abbrev pub counted_files : {Y : Type 0} → List (String Y × ℕ) → ℕ
counted_files [] = 0
counted_files (f ∷ fs) = f.1 + counted_files fs

-- the folders of a group
abbrev pub group_of : Group → List FolderModel
group_of g = counted_folders g.folders.items (given_files g.files.items)

-- the files of a folder have distinct names
abbrev pub HasDistinctFiles : FolderModel → Type 0
HasDistinctFiles f = HaveDistinctNames f.1

-- a group has as many files as are counted for its folders, and no folder has two of one name
pub record IsGroup (g : Group) : Type 0 where
  pub counted : counted_files g.folders.items ≡ length g.files.items
  pub distinct : All HasDistinctFiles (group_of g)

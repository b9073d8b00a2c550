-- What is kept, said and counted of what lies in a folder, by what reading it answered.
use Rattle.std.specs.Prelude.{◌≡◌, ◌<◌, ◌≤◌, ◌+◌, ◌==◌, ℕ, Bool, true, false, List, [], ◌∷◌, ◌++◌, length, codes, nat_eq, Result, Ok, Err, string_bytes, if◌then◌else◌}
use Rattle.std.specs.BTreeMap.{insert_entry}
use Rattle.std.specs.List.{ends_with}
use Rattle.std.specs.String.{string_cmp}
use Rattle.std.specs.declared.io.ErrorKind.{ErrorKind}
use Rattle.std.specs.declared.string.String.{String}
use Rattle.go_path_core.specs.text_core.declared.rule.Rule.{Rule}
use Rattle.go_path_core.specs.text_core.declared.rule.Rule.TheVariants.{E2, E3, E4, L1}
use Rattle.go_folder_core.specs.Folders.{joined_path}
use Rattle.go_folder_core.specs.Names.{kind_of_file, passed_over}
use Rattle.go_folder_core.specs.declared.names.FileKind.{FileKind}
use Rattle.go_folder_core.specs.declared.names.FileKind.TheVariants as by_name
use Rattle.govisd_disk.specs.declared.reading.EntryKind.{EntryKind}
use Rattle.govisd_disk.specs.declared.reading.EntryKind.TheVariants as kind
use Rattle.govisd_disk.specs.declared.reading.FoundFolders.{FoundFolders}
use Rattle.govisd_disk.specs.Notes.{SaysUnread, note_line, refusal_line}

-- the number of some and one more; the greatest stays
abbrev pub one_more : ℕ → ℕ
one_more n = if n == 18446744073709551615 then n else n + 1

-- a text is refused as too long, or as none
abbrev pub refuses_text : Rule → Bool
refuses_text E3 = true
refuses_text L1 = true
refuses_text _ = false

-- a text that was read has no more bytes than are allowed, or it is refused
abbrev pub IsTextRead : {Y : Type 0} → Result (String Y) Rule → Type 0
IsTextRead (Ok text) = length (string_bytes text) ≤ 1048576
IsTextRead (Err rule) = refuses_text rule ≡ true

-- a source file that could not be read is kept by its name with a byte that no Go text has
pub record KeepsUnread {Y Z : Type 0} (name : String Y) (files files' : List (String Y × String Z)) : Type 0 where
  pub text : String Z
  pub is : string_bytes text ≡ 0 ∷ []
  pub kept : files' ≡ insert_entry string_cmp files name text

-- and one line names it and says by which rule its text is refused, or why it cannot be read
pub record RefusesFile {Y Z : Type 0} (rule : Rule) (own : List ℕ) (name : String Y) (files files' : List (String Y × String Z)) (left left' : List ℕ) : Type 0 where
  pub kept : KeepsUnread name files files'
  pub said : left' ≡ left ++ refusal_line own rule

pub record MissesFile {Y Z : Type 0} (kind : ErrorKind) (own : List ℕ) (name : String Y) (files files' : List (String Y × String Z)) (left left' : List ℕ) : Type 0 where
  pub kept : KeepsUnread name files files'
  pub said : SaysUnread own kind left left'

-- a source file is kept by its name with a text, or one line names it and says why it has none: its package has the most files already, its text is
-- refused, or it cannot be read
pub data TakesFile {Y Z : Type 0} (own : List ℕ) (name : String Y) (files files' : List (String Y × String Z)) (left left' : List ℕ) : Type 0 where
  IsOneTooMany : 256 ≤ length files → files' ≡ files → left' ≡ left ++ refusal_line own E4 → TakesFile own name files files' left left'
  IsKept : (text : String Z) → length (string_bytes text) ≤ 1048576 → length files < 256 → files' ≡ insert_entry string_cmp files name text → left' ≡ left → TakesFile own name files files' left left'
  IsRefused : (rule : Rule) → refuses_text rule ≡ true → RefusesFile rule own name files files' left left' → TakesFile own name files files' left left'
  IsUnread : (kind : ErrorKind) → MissesFile kind own name files files' left left' → TakesFile own name files files' left left'

-- the folders with files, and what was counted, stay
pub record Stays (old new : FoundFolders) : Type 0 where
  pub folders : new.folders ≡ old.folders
  pub files : new.passed_files ≡ old.passed_files
  pub passed : new.passed_folders ≡ old.passed_folders

-- a file that is none of a package by its name is counted where it is Go's, and nothing is said of it
pub record PassesFile (name : List ℕ) (old new : FoundFolders) : Type 0 where
  pub folders : new.folders ≡ old.folders
  pub files : new.passed_files ≡ (if ends_with nat_eq name (codes ".go") then one_more old.passed_files else old.passed_files)
  pub passed : new.passed_folders ≡ old.passed_folders
  pub left : string_bytes new.left_out ≡ string_bytes old.left_out

-- a folder that is passed over is counted where its name does not begin with a dot, and nothing is said of it
abbrev pub begins_with_dot : List ℕ → Bool
begins_with_dot [] = false
begins_with_dot (b ∷ bs) = b == 46

pub record PassesFolder (name : List ℕ) (old new : FoundFolders) : Type 0 where
  pub folders : new.folders ≡ old.folders
  pub files : new.passed_files ≡ old.passed_files
  pub passed : new.passed_folders ≡ (if begins_with_dot name then old.passed_folders else one_more old.passed_folders)
  pub left : string_bytes new.left_out ≡ string_bytes old.left_out

-- one line names what is left out
pub record LeavesOut (line : List ℕ) (old new : FoundFolders) : Type 0 where
  pub stays : Stays old new
  pub left : string_bytes new.left_out ≡ string_bytes old.left_out ++ line

-- what is a source file by its name: a regular file is taken, and anything else left out
abbrev pub TakesSource : {Y Z : Type 0} → EntryKind → List ℕ → String Y → List (String Y × String Z) → List (String Y × String Z) → FoundFolders → FoundFolders → Type 0
TakesSource kind.File own name files files' old new = TakesFile own name files files' (string_bytes old.left_out) (string_bytes new.left_out) × Stays old new
TakesSource _ own name files files' old new = LeavesOut (note_line own (codes "no regular file")) old new × (files' ≡ files)

-- what is no folder: it is passed over by its name, its name is refused, or it is a source file by its name
abbrev pub TakesOther : {Y Z : Type 0} → FileKind → EntryKind → List ℕ → String Y → List (String Y × String Z) → List (String Y × String Z) → FoundFolders → FoundFolders → Type 0
TakesOther by_name.Other kind own name files files' old new = PassesFile (string_bytes name) old new × (files' ≡ files)
TakesOther by_name.BadName kind own name files files' old new = LeavesOut (refusal_line own E2) old new × (files' ≡ files)
TakesOther by_name.Source kind own name files files' old new = TakesSource kind own name files files' old new

-- a folder: it is passed over by its name, or is one of those that are read next
abbrev pub EntersFolder : {X : Type 0} → Bool → X → List ℕ → List X → List X → FoundFolders → FoundFolders → Type 0
EntersFolder true own name next next' old new = PassesFolder name old new × (next' ≡ next)
EntersFolder false own name next next' old new = (new ≡ old) × (next' ≡ next ++ own ∷ [])

-- a link to a folder: it is passed over by its name, or left out
abbrev pub LinksFolder : Bool → List ℕ → List ℕ → FoundFolders → FoundFolders → Type 0
LinksFolder true own name old new = PassesFolder name old new
LinksFolder false own name old new = LeavesOut (note_line own (codes "a link to a folder, which is not followed")) old new

-- what lies in a folder by a name, and is of this kind
abbrev pub AddsLooked : {X Y Z : Type 0} → EntryKind → String X → String Y → List (String Y × String Z) → List (String Y × String Z) → List (String X) → List (String X) → FoundFolders → FoundFolders → Type 0
AddsLooked kind.Folder own name files files' next next' old new = EntersFolder (passed_over (string_bytes name)) own (string_bytes name) next next' old new × (files' ≡ files)
AddsLooked kind.FolderLink own name files files' next next' old new = LinksFolder (passed_over (string_bytes name)) (string_bytes own) (string_bytes name) old new × (files' ≡ files) × (next' ≡ next)
AddsLooked kind.File own name files files' next next' old new = TakesOther (kind_of_file (string_bytes name)) kind.File (string_bytes own) name files files' old new × (next' ≡ next)
AddsLooked kind.Other own name files files' next next' old new = TakesOther (kind_of_file (string_bytes name)) kind.Other (string_bytes own) name files files' old new × (next' ≡ next)

-- what lies in a folder by a name: a look says of what kind it is, or it is said why that is not known
pub data AddsEntry {X Y Z : Type 0} (folder : List ℕ) (name : String Y) (files files' : List (String Y × String Z)) (next next' : List (String X)) (old new : FoundFolders) : Type 0 where
  IsLooked : (k : EntryKind) (own : String X) → string_bytes own ≡ joined_path folder (string_bytes name) → AddsLooked k own name files files' next next' old new → AddsEntry folder name files files' next next' old new
  IsUnknown : (k : ErrorKind) → SaysUnread (joined_path folder (string_bytes name)) k (string_bytes old.left_out) (string_bytes new.left_out) → Stays old new → files' ≡ files → next' ≡ next → AddsEntry folder name files files' next next' old new

-- The files of a package, each with its tree.
use Rattle.std.specs.Prelude.{◌≡◌, List, [], ◌∷◌}
use denote.Ref.{Bor}
use Rattle.go_tree_nodes.specs.declared.files.File.{File}
use Rattle.go_tree_nodes.specs.Trees.{FileTree}
use Rattle.go_tree_nodes.specs.Shapes.{file_of}
use Rattle.go_block_core.specs.declared.imports.Imported.{Imported}
use Rattle.go_table_core.specs.Entries.{Entry}
use Rattle.go_typexpr_core.specs.entry.Meanings.{Shows}
use Rattle.go_local_core.specs.declared.Fault.{Fault}
use Rattle.go_body_core.specs.Notes.{TheUse, TheLocal}
use Rattle.go_body_core.specs.function.Stands.{FileStand}
use Rattle.go_body_core.specs.declared.file.file_at.FileAt.{FileAt}
use Rattle.go_body_core.specs.declared.file.whole.CheckedFile.{CheckedFile}
use Rattle.go_body_core.specs.file.Files.{file_uses, file_faults, file_locals}
use Rattle.go_body_core.specs.file.Stands.{AreInitialTypes, AreFunctionTypes, stand_of}
use Rattle.go_tree_nodes.specs.Spelling.{IsPlaced}

-- the tree that a reference shows
abbrev pub lent_tree : Bor File → FileTree
lent_tree t = file_of t.now

-- a file may be checked over a table of types: it is that of its package, its tokens follow one another, and the types that it writes are made
pub record IsReady {P : Type 0} (shows : P → Shows) (types : List Entry) (at : FileAt P) (f : FileTree) : Type 0 where
  pub table : at.scene.now.types.now ≡ types
  pub placed : IsPlaced f
  pub initial : AreInitialTypes (stand_of shows at) f at.initial.now
  pub functions : AreFunctionTypes (stand_of shows at) f at.functions.now

-- what the occurrences of a file have, its faults, and the locals of its functions
pub record CheckedFileOf : Type 0 where
  pub uses : List TheUse
  pub faults : List Fault
  pub locals : List TheLocal

abbrev pub checked_file_shown : CheckedFile → CheckedFileOf
checked_file_shown c = record { uses = c.uses.items; faults = c.faults.items; locals = c.locals.items }

abbrev pub file_checked : FileStand → List Imported → FileTree → CheckedFileOf
file_checked st imports f = record { uses = file_uses st imports f; faults = file_faults st f; locals = file_locals st f }

-- of each file
abbrev pub files_checked : {P : Type 0} → (P → Shows) → List (FileAt P) → List FileTree → List CheckedFileOf
files_checked shows [] fs = []
files_checked shows (a ∷ more) [] = []
files_checked shows (a ∷ more) (f ∷ fs) = file_checked (stand_of shows a) a.imports.now f ∷ files_checked shows more fs

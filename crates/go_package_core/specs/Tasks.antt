-- The files of a package that are checked, and what stands in them.
use Rattle.std.specs.Prelude.{◌≡◌, ◌++◌, ℕ, List, drop, map}
use Rattle.go_tree_nodes.specs.Shapes.{file_of}
use Rattle.go_tree_nodes.specs.Spelling.{IsPlaced}
use Rattle.go_term_core.specs.decl_core.Shown.{decl_shown}
use Rattle.go_type_core.specs.table_core.Entries.{Entry}
use Rattle.go_body_core.specs.typexpr_core.EntryMeanings.{Shows}
use Rattle.go_report_core.specs.handle_core.Declarations.{Declaration}
use Rattle.go_report_core.specs.Faults.{IsSettled}
use Rattle.go_body_core.specs.file.Files.{file_uses, file_faults, file_locals}
use Rattle.go_body_core.specs.file.Stands.{AreFunctionTypes, AreInitialTypes, stand_of}
use Rattle.go_report_core.specs.answer.Outer.{outer_faults}
use Rattle.go_package_core.specs.declared.tasks.FileTask.{FileTask}
use Rattle.go_package_core.specs.Checked.{AnswersOf}

-- a file may be checked over a table of types: it is that of its package, its tokens follow one another, and the types that it writes are made
pub record IsTask {N : Type 0} (shows : N → Shows) (types : List Entry) (t : FileTask N) : Type 0 where
  pub table : t.at.scene.now.types.now ≡ types
  pub placed : IsPlaced (file_of t.tree.now)
  pub initial : AreInitialTypes (stand_of shows t.at) (file_of t.tree.now) t.at.initial.now
  pub functions : AreFunctionTypes (stand_of shows t.at) (file_of t.tree.now) t.at.functions.now

-- what its occurrences have, its faults, with those that are asked of the package as a whole, and the locals of its functions
pub record IsAnswered {N : Type 0} (shows : N → Shows) (t : FileTask N) (a : AnswersOf) : Type 0 where
  pub uses : a.uses ≡ file_uses (stand_of shows t.at) t.at.imports.now (file_of t.tree.now)
  pub settled :
      IsSettled Declaration (List ℕ) a.uses
      (file_faults (stand_of shows t.at) (file_of t.tree.now) ++ outer_faults t.outer.file t.outer.blocks.now t.outer.type_faults.now (map decl_shown t.outer.decls.now) (drop t.outer.first t.outer.looped.now)) a.faults
  pub locals : a.locals ≡ file_locals (stand_of shows t.at) (file_of t.tree.now)

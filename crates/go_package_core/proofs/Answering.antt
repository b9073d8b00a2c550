-- What stands in a file that was checked.
use Rattle.std.proofs.Common.{◌≡◌, ℕ, List, ◌++◌, map, drop, subst, ◌∙◌}
use Rattle.std.specs.Prelude.{Result, Ok, Err, IfOk}
use Rattle.std.specs.declared.alloc.AllocError.{AllocError}
use Rattle.go_tree_nodes.specs.Shapes.{file_of}
use Rattle.go_term_core.specs.decl_core.Shown.{decl_shown}
use Rattle.go_body_core.specs.typexpr_core.EntryMeanings.{Shows}
use Rattle.go_report_core.specs.handle_core.Declarations.{Declaration}
use Rattle.go_report_core.specs.Faults.{IsSettled}
use Rattle.go_body_core.specs.file.Files.{file_uses, file_faults, file_locals}
use Rattle.go_body_core.specs.file.Stands.{stand_of}
use Rattle.go_report_core.specs.answer.Outer.{outer_faults}
use Rattle.go_body_core.specs.declared.file.whole.CheckedFile.{CheckedFile}
use Rattle.go_package_core.specs.declared.checked.FileAnswers.{FileAnswers}
use Rattle.go_package_core.specs.declared.tasks.FileTask.{FileTask}
use Rattle.go_package_core.specs.Checked.{answers_shown, local_shown}
use Rattle.go_package_core.specs.Tasks.{IsAnswered}

module _ {N : Type 0} (shows : N → Shows) (t : FileTask N) (c : CheckedFile) where
  pub answered : (r : Result FileAnswers AllocError) → c.uses.items ≡ file_uses (stand_of shows t.at) t.at.imports.now (file_of t.tree.now) → c.faults.items ≡ file_faults (stand_of shows t.at) (file_of t.tree.now)
      → c.locals.items ≡ file_locals (stand_of shows t.at) (file_of t.tree.now) → IfOk r (λ a. a.answers.items ≡ c.uses.items)
      → IfOk r (λ a. IsSettled Declaration (List ℕ) a.answers.items (c.faults.items ++ outer_faults t.outer.file t.outer.blocks.now t.outer.type_faults.now (map decl_shown t.outer.decls.now) (drop t.outer.first t.outer.looped.now)) a.faults.items)
      → IfOk r (λ a. map local_shown a.locals.items ≡ c.locals.items) → IfOk r (λ a. IsAnswered shows t (answers_shown a))
  answered (Ok a) us fs ls uses faults locals = record {
    uses = uses ∙ us;
    settled = subst (λ l. IsSettled Declaration (List ℕ) a.answers.items (l ++ outer_faults t.outer.file t.outer.blocks.now t.outer.type_faults.now (map decl_shown t.outer.decls.now) (drop t.outer.first t.outer.looped.now)) a.faults.items) fs faults;
    locals = locals ∙ ls;
  }
  answered (Err e) us fs ls uses faults locals = tt

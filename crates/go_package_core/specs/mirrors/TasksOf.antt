-- The files of a package as the check has them, each with what it is then.
use Rattle.std.specs.Prelude.{ℕ, Bool, List, Option}
use Rattle.go_tree_nodes.specs.Trees.{FileTree}
use Rattle.go_type_core.specs.table_core.Entries.{Entry}
use Rattle.go_body_core.specs.typexpr_core.EntryMeanings.{Shows}
use Rattle.go_report_core.specs.declared.type_faults.places.PackageFault.{PackageFault}
use Rattle.go_report_core.specs.declared_core.Faces.{TheFace}
use Rattle.go_package_core.specs.prepare.Packages.{PackageIn}
use Rattle.go_package_core.specs.declared.tasks.FileTask.{FileTask}
use Rattle.go_package_core.specs.Checked.{AnswersOf, IsFileChecked}
use Rattle.go_package_core.specs.Tasks.{IsAnswered, IsTask}

-- the file of a number and a tree: it may be checked, and what its check gives is what stands in that file of the package
pub record IsTaskOf {N : Type 0} (shows : N → Shows) (p : PackageIn) (types : List Entry) (known : List (Option TheFace)) (faults : List PackageFault) (looped : List Bool) (f : ℕ × FileTree) (t : FileTask N) : Type 0 where
  pub ready : IsTask shows types t
  pub checked : (a : AnswersOf) → IsAnswered shows t a → IsFileChecked p types known faults looped f a

use Rattle.std.proofs.Common.{map, take}
use Rattle.std.specs.List.{AllZip}
use Rattle.go_package_core.specs.Checked.{answers_shown}
use Rattle.go_package_core.specs.Tasks.{IsAnswered}
use Rattle.go_package_core.proofs.tasks.answers_in.Given as goal

abbrev pub invariant-loop-task : goal.invariant-loop-task
invariant-loop-task g l = AllZip (IsAnswered g.N.ImportedNames.shows) (take l.task-index l.tasks) (map answers_shown l.files.items)

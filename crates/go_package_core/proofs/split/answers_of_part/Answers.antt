use Rattle.std.proofs.Common.{sym, subst}
use Rattle.go_package_core.specs.Checked.{answers_shown}
use Rattle.go_package_core.specs.Tasks.{IsAnswered, IsTask}
use Rattle.go_package_core.proofs.Corresponding.{zip_further}
use Rattle.go_package_core.proofs.split.answers_of_part.Goals as goal

pub answers_of_file-requires-clause-task : goal.answers_of_file-requires-clause-task
answers_of_file-requires-clause-task g c κs within = subst (IsTask g.N.ImportedNames.shows g.K.TypesOf.types) (sym c.task-item.is) (c.requires.tasks c.loop-task.task-index c.task-item.result c.loop-task-test.true)

pub loop-task-preserved : goal.loop-task-preserved
loop-task-preserved g c =
    zip_further (IsAnswered g.N.ImportedNames.shows) answers_shown c.args.tasks.now c.loop-task.task-index c.task-item.result c.loop-task.files.items c.add.new.all.items c.in_ok-answers.answers c.loop-task-test.true c.task-item.is
    c.in_ok-add.ensures c.in_ok-answers.ensures c.loop-task.invariant

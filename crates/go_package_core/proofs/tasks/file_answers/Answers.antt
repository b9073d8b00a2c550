use Rattle.go_package_core.proofs.Answering.{answered}
use Rattle.go_package_core.proofs.tasks.file_answers.Goals as goal

pub check_file-requires-clause-table : goal.check_file-requires-clause-table
check_file-requires-clause-table g c = c.requires.table

pub check_file-requires-clause-placed : goal.check_file-requires-clause-placed
check_file-requires-clause-placed g c = c.requires.placed

pub check_file-requires-clause-initial : goal.check_file-requires-clause-initial
check_file-requires-clause-initial g c = c.requires.initial

pub check_file-requires-clause-functions : goal.check_file-requires-clause-functions
check_file-requires-clause-functions g c = c.requires.functions

pub returns : goal.returns
returns g c =
    let is = c.in_ok-checked.ensures in
    let done = c.finished.ensures in
    answered g.N.ImportedNames.shows c.args.task.now c.in_ok-checked.checked c.finished.result is.uses is.faults is.locals done.uses done.faults done.locals

use Rattle.go_package_core.proofs.Answering.{answered}
use Rattle.go_package_core.proofs.split.answers_of_file.Goals as goal

pub check_file_at_once-requires-clause-table : goal.check_file_at_once-requires-clause-table
check_file_at_once-requires-clause-table g c κs within = c.requires.task.table

pub check_file_at_once-requires-clause-placed : goal.check_file_at_once-requires-clause-placed
check_file_at_once-requires-clause-placed g c κs within = c.requires.task.placed

pub check_file_at_once-requires-clause-initial : goal.check_file_at_once-requires-clause-initial
check_file_at_once-requires-clause-initial g c κs within = c.requires.task.initial

pub check_file_at_once-requires-clause-functions : goal.check_file_at_once-requires-clause-functions
check_file_at_once-requires-clause-functions g c κs within = c.requires.task.functions

pub returns : goal.returns
returns g c =
    let is = c.in_ok-checked.ensures in
    let done = c.finished.ensures in
    answered g.N.ImportedNames.shows c.args.task.now c.in_ok-checked.checked c.finished.result is.uses is.faults is.locals done.uses done.faults done.locals

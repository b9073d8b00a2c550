use Rattle.go_body_core.specs.file.Stands.{stand_of}
use Rattle.go_body_core.proofs.FileRunning.{checked_is}
use Rattle.go_body_core.proofs.file.alone.check_alone.Goals as goal

pub returns : goal.returns
returns g c =
    let is = c.in_ok-checked.ensures in
    checked_is (stand_of g.P.ImportedNames.shows c.args.at.now) c.args.run.now c.in_ok-checked.checked is.uses is.faults is.locals

use Rattle.go_complete_core.specs.snap_core.Snapshots.{file_in_shown}
use Rattle.go_query_core.proofs.Spotted.{unasked_in}
use Rattle.go_query_core.proofs.completing.complete_in.Goals as goal

pub returns-in-None-clause-err : goal.returns-in-None-clause-err
returns-in-None-clause-err c = unasked_in (file_in_shown c.args.file) c.args.offset c.text.result.now c.text.ensures c.in-None.ensures c.unused.result c.unused.ensures

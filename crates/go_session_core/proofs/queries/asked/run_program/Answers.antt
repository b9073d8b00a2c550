use Rattle.std.proofs.Common.{map, ap, ◌∙◌}
use Rattle.go_object_core.specs.Objects.{object_shown}
use Rattle.go_session_core.proofs.QueriesRunning.{refused_same}
use Rattle.go_session_core.proofs.queries.asked.run_program.Goals as goal

pub returns-clause-err : goal.returns-clause-err
returns-clause-err c =
    refused_same c.args.path.now c.args.steps c.args.snapshot.now (map object_shown c.deref.result.now) c.in-Err.rule
    (ap (map object_shown) c.deref.ensures.value ∙ c.in-Ok.ensures) c.in-Err.ensures.err

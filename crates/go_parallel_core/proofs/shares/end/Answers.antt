use Rattle.std.proofs.Common.{subst}
use Rattle.go_parallel_core.specs.Works.{IsWorkIn}
use Rattle.go_parallel_core.proofs.Seeing.{beside_promised}
use Rattle.go_parallel_core.proofs.shares.end.Goals as goal

pub returns-in-Begun-clause-sight : goal.returns-in-Begun-clause-sight
returns-in-Begun-clause-sight g c =
    let given = c.in-Begun.begun.promise in
    beside_promised c.args.batch.now.parts given.sight.value given.inputs.value.items c.join.result (subst (IsWorkIn c.args.batch.now.parts) c.in-Begun.is c.requires) c.join.ensures

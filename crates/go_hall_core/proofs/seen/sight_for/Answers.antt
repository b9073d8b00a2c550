use Rattle.std.proofs.Common.{sym, subst}
use Rattle.go_sched_core.specs.Sights.{Serves}
use Rattle.go_hall_core.proofs.Seeing.{serves_none}
use Rattle.go_hall_core.proofs.seen.sight_for.Goals as goal

pub returns-then-serves : goal.returns-then-serves
returns-then-serves g c =
    let known = c.args.known.now in
    subst (Serves known.log known.action) (sym c.into_sight.ensures) (c.serves.ensures c.if-serves.true)

pub returns : goal.returns
returns g c =
    let known = c.args.known.now in
    subst (Serves known.log known.action) (sym c.in_ok-sight.ensures) (serves_none known.log known.action)

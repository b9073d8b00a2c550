use Rattle.govisd_service.proofs.DesksOpening.{opened_is}
use Rattle.govisd_service.proofs.desks.seating.opened.Goals as goal

pub returns-clause-ok : goal.returns-clause-ok
returns-clause-ok g c = opened_is c.args.path.now c.as_str.result.now c.in_ok-own.own c.in_ok-session.session.draft c.in_ok-session.session.submits c.in_ok-own.ensures.ok c.as_str.ensures c.in_ok-session.ensures.ok

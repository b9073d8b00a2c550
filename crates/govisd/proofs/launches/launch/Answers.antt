use Rattle.std.proofs.Common.{inl}
use Rattle.govisd.proofs.launches.launch.Goals as goal

pub returns-in-Ok : goal.returns-in-Ok
returns-in-Ok g c = inl (record { answer = c.in-Ok.answer; launches = c.in-Ok.ensures.outcomes; is = c.in-Ok.ensures.is; gives = c.give.ensures })

use Rattle.std.proofs.Common.{inl}
use Rattle.govisd.proofs.program.check.Goals as goal

pub returns-in-Ok : goal.returns-in-Ok
returns-in-Ok g c = inl (record { answer = c.in-Ok.answer; answers = c.in-Ok.ensures.answers; is = c.in-Ok.ensures.is; gives = c.give.ensures })

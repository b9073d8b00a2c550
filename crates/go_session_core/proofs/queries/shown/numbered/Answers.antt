use Rattle.std.proofs.Common.{arith}
use Rattle.go_session_core.proofs.QueriesLasts.{numbered_is}
use Rattle.go_session_core.proofs.queries.shown.numbered.Goals as goal

pub returns : goal.returns
returns c = numbered_is c.args.board.now c.args.number c.get.result c.get.ensures.sound (omega (arith, c.if-number-eq0.false)) (omega (arith, c.if-number-len.false, c.len.ensures)) c.get.ensures.value

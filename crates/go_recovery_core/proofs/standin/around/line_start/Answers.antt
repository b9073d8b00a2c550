use Rattle.std.proofs.Common.{sym, ◌∙◌, arith}
use Rattle.go_recovery_core.proofs.StandinWalls.{start_end}
use Rattle.go_recovery_core.proofs.standin.around.line_start.Goals as goal

pub returns : goal.returns
returns c = sym (start_end c.args.bytes.now c.loop-at.at c.args.offset c.loop-at.start (omega (arith, c.min-at-end.ensures, c.loop-at-test.false))) ∙ c.loop-at.invariant

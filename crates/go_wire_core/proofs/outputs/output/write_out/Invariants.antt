use Rattle.go_wire_core.proofs.OutputsOutputLemmas.{SentFirst}
use Rattle.go_wire_core.proofs.outputs.output.write_out.Given as goal

abbrev pub invariant-loop-turn : goal.invariant-loop-turn
invariant-loop-turn g l = SentFirst (g.W.Write.contents l.fn.writer) (g.W.Write.contents l.writer) l.bytes l.rest

use Rattle.govisd_resolve.proofs.OutputLemmas.{SentFirst}
use Rattle.govisd_resolve.proofs.output.write_report.Given as goal

abbrev pub invariant-loop-turn : goal.invariant-loop-turn
invariant-loop-turn g l = SentFirst (g.W.Write.contents l.fn.writer) (g.W.Write.contents l.writer) l.bytes l.rest

use Rattle.std.specs.Io.KnownBytes.{Keeps}
use Rattle.go_wire_core.proofs.outputs.flushing.flush_out.Given as goal

abbrev pub invariant-loop-turn : goal.invariant-loop-turn
invariant-loop-turn g l = Keeps (g.W.Write.contents l.fn.writer) (g.W.Write.contents l.writer)

use Rattle.std.proofs.Common.{drop}
use Rattle.go_recovery_core.proofs.StandinBroken.{AreSoFar}
use Rattle.go_recovery_core.proofs.standin.alone.broken_of.Given as goal

abbrev pub invariant-loop-part : goal.invariant-loop-part
invariant-loop-part l = AreSoFar l.bytes l.parts (drop l.part-index l.parts) l.broken.items

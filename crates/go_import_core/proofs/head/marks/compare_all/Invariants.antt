use Rattle.go_import_core.proofs.HeadMarking.{AreMarkedTo}
use Rattle.go_import_core.proofs.head.marks.compare_all.Given as goal

abbrev pub invariant-loop-number : goal.invariant-loop-number
invariant-loop-number l = AreMarkedTo l.packages l.others l.number-end l.number l.same.items l.heads

use Rattle.std.proofs.Common.{take}
use Rattle.go_snap_core.specs.make.mirrors.Marking.{AllMarked}
use Rattle.go_snap_core.proofs.make.kept.all_marked.Given as goal

abbrev pub invariant-loop-number : goal.invariant-loop-number
invariant-loop-number l = AllMarked l.marks (take l.number-index l.numbers)

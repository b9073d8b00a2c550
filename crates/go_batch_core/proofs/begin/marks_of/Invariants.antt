use Rattle.std.proofs.Common.{◌≡◌, map, take}
use Rattle.go_batch_core.specs.mirrors.Keeping.{mark_of}
use Rattle.go_batch_core.proofs.begin.marks_of.Given as goal

abbrev pub invariant-loop-slot : goal.invariant-loop-slot
invariant-loop-slot l = l.marks.items ≡ map mark_of (take l.slot-index l.slots)

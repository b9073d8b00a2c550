use Rattle.std.proofs.Common.{take}
use Rattle.go_batch_core.proofs.Ordered.{AreOrdered}
use Rattle.go_batch_core.proofs.begin.slots_of.Given as goal

abbrev pub invariant-loop-number : goal.invariant-loop-number
invariant-loop-number l = AreOrdered l.count (take l.number-index l.order) l.slots.items

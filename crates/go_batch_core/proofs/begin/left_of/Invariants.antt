use Rattle.std.proofs.Common.{◌≡◌, take}
use Rattle.go_batch_core.specs.Batches.{unfinished}
use Rattle.go_batch_core.proofs.begin.left_of.Given as goal

abbrev pub invariant-loop-slot : goal.invariant-loop-slot
invariant-loop-slot l = l.left ≡ unfinished (take l.slot-index l.slots)

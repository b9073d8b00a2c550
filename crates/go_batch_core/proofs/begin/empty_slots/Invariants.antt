use Rattle.std.proofs.Common.{◌≡◌, replicate}
use Rattle.go_batch_core.specs.declared.slot.Slot.TheVariants.{NoAction}
use Rattle.go_batch_core.proofs.begin.empty_slots.Given as goal

abbrev pub invariant-loop-package : goal.invariant-loop-package
invariant-loop-package l = l.slots.items ≡ replicate l._package NoAction

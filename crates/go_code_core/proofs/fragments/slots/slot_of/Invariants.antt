use Rattle.std.proofs.Common.{◌≡◌, drop}
use Rattle.go_code_core.specs.fragments.Names.{slot_from, slot_of}
use Rattle.go_code_core.proofs.fragments.slots.slot_of.Given as goal

abbrev pub invariant-loop-slot : goal.invariant-loop-slot
invariant-loop-slot l = slot_from l.slot (drop l.slot l.slots) l.offset ≡ slot_of l.slots l.offset

use Rattle.std.proofs.Common.{◌≡◌, take}
use Rattle.go_package_core.proofs.package_part.parts.shared_slots.Given as goal

abbrev pub invariant-loop-slot : goal.invariant-loop-slot
invariant-loop-slot l = l.shared.items ≡ take l.slot-index l.slots

use Rattle.std.proofs.Common.{◌≡◌, ◌≤◌, ◌+◌, ◌++◌, length}
use Rattle.std.specs.Prelude.{vec_capacity}
use Rattle.std.specs.Vec.Iter.{into_iter_items}
use Rattle.go_package_core.proofs.package_part.parts.Parts.take_back.Given as goal
use Rattle.go_package_core.specs.package_part.Slots.{somes}

abbrev pub invariant-loop-slot : goal.invariant-loop-slot
invariant-loop-slot l =
    (l.parts.items ++ somes (into_iter_items l.slot-iterator) ≡ somes l.fn.self)
    × (length l.parts.items + length (somes (into_iter_items l.slot-iterator)) ≤ vec_capacity l.parts)

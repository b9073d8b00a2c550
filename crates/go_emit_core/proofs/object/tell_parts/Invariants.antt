use Rattle.std.proofs.Common.{◌≡◌, ◌++◌, drop}
use Rattle.go_emit_core.specs.Emitted.{told_by}
use Rattle.go_emit_core.proofs.object.tell_parts.Given as goal
use Rattle.go_package_core.specs.package_part.Slots.{somes}

abbrev pub invariant-loop-part : goal.invariant-loop-part
invariant-loop-part l = l.told.items ++ told_by (somes (drop l.part-index l.parts)) ≡ told_by (somes l.parts)

use Rattle.std.proofs.Common.{◌≡◌, ◌++◌, drop, map}
use Rattle.std.specs.List.{flat_map}
use Rattle.go_object_core.specs.Objects.{object_shown}
use Rattle.go_emit_core.specs.mirrors.Naming.{objects_with}
use Rattle.go_emit_core.proofs.object.objects_in.Given as goal
use Rattle.go_package_core.specs.package_part.Slots.{somes}

abbrev pub invariant-loop-part : goal.invariant-loop-part
invariant-loop-part l = map object_shown l.objects.items ++ flat_map (objects_with l.tables) (somes (drop l.part-index l.parts)) ≡ flat_map (objects_with l.tables) (somes l.parts)

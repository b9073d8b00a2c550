use Rattle.std.proofs.Common.{◌≡◌, ◌++◌, drop}
use Rattle.test_snapshot.proofs.joining.add_all_made.Given as goal
use Rattle.go_emit_core.specs.package_core.PackagePartSlots.{somes}

abbrev pub invariant-loop-part : goal.invariant-loop-part
invariant-loop-part l = l.made.items ++ somes (drop l.part-index l.parts) ≡ l.fn.made.items ++ somes l.parts

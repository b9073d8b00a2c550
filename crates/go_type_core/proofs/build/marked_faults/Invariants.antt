use Rattle.std.proofs.Common.{◌≡◌, take}
use Rattle.go_type_core.specs.mirrors.Making.{marked_faults}
use Rattle.go_type_core.proofs.build.marked_faults.Given as goal

abbrev pub invariant-loop-entry : goal.invariant-loop-entry
invariant-loop-entry l = l.faults.items ≡ marked_faults 0 (take l.entry l.looped)

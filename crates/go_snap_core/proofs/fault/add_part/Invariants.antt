use Rattle.std.proofs.Common.{◌≡◌, ◌++◌, take}
use Rattle.go_snap_core.specs.mirrors.Reports.{part_faults}
use Rattle.go_snap_core.proofs.fault.add_part.Given as goal

abbrev pub invariant-loop-file : goal.invariant-loop-file
invariant-loop-file l = l.faults.items ≡ l.fn.faults.items ++ part_faults l.«package» 0 (take l.file l.part.content.files)

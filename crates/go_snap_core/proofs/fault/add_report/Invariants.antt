use Rattle.std.proofs.Common.{◌≡◌, ◌++◌, map, take}
use Rattle.go_snap_core.specs.mirrors.Reports.{placed}
use Rattle.go_snap_core.proofs.fault.add_report.Given as goal

abbrev pub invariant-loop-fault : goal.invariant-loop-fault
invariant-loop-fault l = l.faults.items ≡ l.fn.faults.items ++ map (placed l.«package» l.file) (take l.fault-index l.report)

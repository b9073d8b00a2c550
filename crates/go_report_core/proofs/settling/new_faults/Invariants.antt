use Rattle.std.proofs.Common.{◌≡◌, ◌++◌, drop, filter}
use Rattle.go_report_core.specs.mirrors.Settling.{is_new}
use Rattle.go_report_core.proofs.settling.new_faults.Given as goal

abbrev pub invariant-loop-fault : goal.invariant-loop-fault
invariant-loop-fault l = l.kept.items ++ filter (is_new l.sorted) (drop l.fault-index l.faults) ≡ filter (is_new l.sorted) l.faults

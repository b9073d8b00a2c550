use Rattle.std.proofs.Common.{◌≡◌, ◌++◌, drop}
use Rattle.go_report_core.specs.answer.Outer.{type_faults_in}
use Rattle.go_report_core.proofs.answer.outer.add_type_faults.Given as goal

abbrev pub invariant-loop-fault : goal.invariant-loop-fault
invariant-loop-fault l = l.faults.items ++ type_faults_in l.file (drop l.fault-index l.found) ≡ l.fn.faults.items ++ type_faults_in l.file l.found

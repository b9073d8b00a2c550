use Rattle.std.proofs.Common.{◌≡◌, ◌++◌, drop}
use Rattle.go_report_core.specs.answer.Outer.{block_faults_in}
use Rattle.go_report_core.proofs.answer.outer.add_block_faults.Given as goal

abbrev pub invariant-loop-fault : goal.invariant-loop-fault
invariant-loop-fault l = l.faults.items ++ block_faults_in l.file (drop l.fault-index l.found) ≡ l.fn.faults.items ++ block_faults_in l.file l.found

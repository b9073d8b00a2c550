use Rattle.std.proofs.Common.{◌≡◌, take}
use Rattle.go_session_core.specs.queries.Built.{faults_inside}
use Rattle.go_session_core.proofs.queries.faults.faults_in.Given as goal

abbrev pub invariant-loop-number : goal.invariant-loop-number
invariant-loop-number l = l.found.items ≡ faults_inside l.own l.snapshot.sources (take l.number l.snapshot.faults)

use Rattle.go_snap_core.proofs.Lying.{faults_differ}
use Rattle.go_snap_core.proofs.laws.faults_differ.Goals as goal

pub returns : goal.returns
returns c = faults_differ

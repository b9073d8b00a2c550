use Rattle.go_snap_core.proofs.Lying.{faults_lie}
use Rattle.go_snap_core.proofs.Placing.{unassembled_lie_in_texts}
use Rattle.go_snap_core.proofs.laws.faults_lie_in_files.Goals as goal

pub returns : goal.returns
returns c = record { files = faults_lie; texts = unassembled_lie_in_texts }

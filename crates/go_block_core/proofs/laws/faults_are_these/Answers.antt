use Rattle.go_block_core.proofs.FaultLaws.{faults_are_these}
use Rattle.go_block_core.proofs.laws.faults_are_these.Goals as goal

pub returns : goal.returns
returns c = faults_are_these

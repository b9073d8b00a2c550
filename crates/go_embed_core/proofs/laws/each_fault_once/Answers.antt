use Rattle.go_embed_core.proofs.Once.{faults_once}
use Rattle.go_embed_core.proofs.laws.each_fault_once.Goals as goal

pub returns : goal.returns
returns c = faults_once

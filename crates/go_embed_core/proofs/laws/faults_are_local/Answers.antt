use Rattle.go_embed_core.proofs.Telling.{faults_local}
use Rattle.go_embed_core.proofs.laws.faults_are_local.Goals as goal

pub returns : goal.returns
returns c = faults_local

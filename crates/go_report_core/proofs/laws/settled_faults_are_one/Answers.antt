use Rattle.go_report_core.proofs.Settled.{settled_are_one}
use Rattle.go_report_core.proofs.laws.settled_faults_are_one.Goals as goal

pub returns : goal.returns
returns g c = settled_are_one _ _

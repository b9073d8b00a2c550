use Rattle.go_machine_core.proofs.RunsWorked.{samples_run}
use Rattle.go_machine_core.proofs.runs.laws.samples_run.Goals as goal

pub returns : goal.returns
returns c = samples_run

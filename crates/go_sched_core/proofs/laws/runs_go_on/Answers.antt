use Rattle.go_sched_core.proofs.Runs.{run_more}
use Rattle.go_sched_core.proofs.laws.runs_go_on.Goals as goal

pub returns : goal.returns
returns c = run_more

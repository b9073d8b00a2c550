use Rattle.go_sched_core.proofs.Runs.{replay_more}
use Rattle.go_sched_core.proofs.laws.replays_go_on.Goals as goal

pub returns : goal.returns
returns c = replay_more

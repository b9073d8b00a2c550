use Rattle.go_hall_core.proofs.Lengths.{replay_counts}
use Rattle.go_hall_core.proofs.laws.replay_counts.Goals as goal

pub returns : goal.returns
returns c = replay_counts

use Rattle.go_machine_core.proofs.Growing.{spent_means_all_steps}
use Rattle.go_machine_core.proofs.laws.spent_means_all_steps.Goals as goal

pub returns : goal.returns
returns c = spent_means_all_steps

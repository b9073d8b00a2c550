use Rattle.go_machine_core.proofs.Growing.{budgets_agree}
use Rattle.go_machine_core.proofs.laws.budgets_agree.Goals as goal

pub returns : goal.returns
returns c = budgets_agree

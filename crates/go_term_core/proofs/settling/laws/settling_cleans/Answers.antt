use Rattle.go_term_core.proofs.SettlingCleaning.{settling_cleans}
use Rattle.go_term_core.proofs.settling.laws.settling_cleans.Goals as goal

pub returns : goal.returns
returns c = settling_cleans

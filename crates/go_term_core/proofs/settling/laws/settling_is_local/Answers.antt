use Rattle.go_term_core.proofs.SettlingLocal.{settling_is_local}
use Rattle.go_term_core.proofs.settling.laws.settling_is_local.Goals as goal

pub returns : goal.returns
returns c = settling_is_local

use Rattle.go_term_core.proofs.SettlingAgain.{settling_is_idempotent}
use Rattle.go_term_core.proofs.settling.laws.settling_is_idempotent.Goals as goal

pub returns : goal.returns
returns c = settling_is_idempotent

use Rattle.go_term_core.proofs.SettlingApart.{settled_is_apart}
use Rattle.go_term_core.proofs.settling.laws.settled_is_apart.Goals as goal

pub returns : goal.returns
returns c = settled_is_apart

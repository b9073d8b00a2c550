use Rattle.go_scope_core.proofs.Blank.{blank_stays_out}
use Rattle.go_scope_core.proofs.laws.blank_stays_out.Goals as goal

pub returns : goal.returns
returns c = blank_stays_out

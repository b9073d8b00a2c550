use Rattle.go_type_core.proofs.Meanings.{one_settled}
use Rattle.go_type_core.proofs.laws.one_settled.Goals as goal

pub returns : goal.returns
returns c = one_settled

use Rattle.go_candidate_core.proofs.ContextDeciding.{things_decide}
use Rattle.go_candidate_core.proofs.context.laws.things_decide.Goals as goal

pub returns : goal.returns
returns g c = things_decide _ _ _ _

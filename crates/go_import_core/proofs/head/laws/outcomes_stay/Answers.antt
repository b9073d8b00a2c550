use Rattle.go_import_core.proofs.HeadStaying as staying
use Rattle.go_import_core.proofs.head.laws.outcomes_stay.Goals as goal

pub returns : goal.returns
returns c = staying.outcomes_stay

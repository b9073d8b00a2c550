use Rattle.go_completion_laws.proofs.Parted.{parts_agree}
use Rattle.go_completion_laws.proofs.laws.reached_parts_agree.Goals as goal

pub returns : goal.returns
returns c = parts_agree c.one_part.ensures c.outcomes_stay.ensures

use Rattle.go_hall.proofs.Refused.{refusals_are_listed}
use Rattle.go_hall.proofs.laws.refusals_are_listed.Goals as goal

pub returns : goal.returns
returns c = refusals_are_listed

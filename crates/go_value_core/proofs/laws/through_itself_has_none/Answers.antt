use Rattle.go_value_core.proofs.Deciding.{through_none}
use Rattle.go_value_core.proofs.laws.through_itself_has_none.Goals as goal

pub returns : goal.returns
returns c = through_none

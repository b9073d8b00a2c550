use Rattle.go_reference_core.proofs.OutlineStanding.{names_stand_within}
use Rattle.go_reference_core.proofs.outline.laws.names_stand_within.Goals as goal

pub returns : goal.returns
returns c = names_stand_within

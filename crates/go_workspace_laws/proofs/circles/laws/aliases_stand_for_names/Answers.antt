use Rattle.go_workspace_laws.proofs.CirclesNaming.{aliases_stand_for_names}
use Rattle.go_workspace_laws.proofs.circles.laws.aliases_stand_for_names.Goals as goal

pub returns : goal.returns
returns c = aliases_stand_for_names

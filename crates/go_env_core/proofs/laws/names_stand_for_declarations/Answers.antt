use Rattle.go_env_core.proofs.Standing.{names_stand}
use Rattle.go_env_core.proofs.laws.names_stand_for_declarations.Goals as goal

pub returns : goal.returns
returns c = names_stand

use Rattle.go_env_core.proofs.Predeclared.{universe_is}
use Rattle.go_env_core.proofs.laws.universe_is_this.Goals as goal

pub returns : goal.returns
returns c = universe_is

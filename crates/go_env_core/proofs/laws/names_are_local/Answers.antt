use Rattle.go_env_core.proofs.Standing.{names_local, shown_local}
use Rattle.go_env_core.proofs.laws.names_are_local.Goals as goal

pub returns-clause-own : goal.returns-clause-own
returns-clause-own c = names_local

pub returns-clause-shown : goal.returns-clause-shown
returns-clause-shown c = shown_local

use Rattle.go_workspace_laws.proofs.ExistenceLoops.{loops_are_decided}
use Rattle.go_workspace_laws.proofs.existence.laws.loops_are_decided.Goals as goal

pub returns : goal.returns
returns c = loops_are_decided

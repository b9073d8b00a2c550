use Rattle.go_workspace_laws.proofs.ExistenceChains.{has_ends}
use Rattle.go_workspace_laws.proofs.existence.laws.chains_have_ends.Goals as goal

pub returns : goal.returns
returns c = has_ends

use Rattle.go_env_core.proofs.Standing.{members_seen}
use Rattle.go_env_core.proofs.laws.fields_are_members.Goals as goal

pub returns : goal.returns
returns c = members_seen

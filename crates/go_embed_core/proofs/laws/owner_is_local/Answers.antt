use Rattle.go_embed_core.proofs.Steps.{owner_local}
use Rattle.go_embed_core.proofs.laws.owner_is_local.Goals as goal

pub returns : goal.returns
returns c = owner_local

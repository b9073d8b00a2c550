use Rattle.go_embed_core.proofs.Hiding.{hidden_told}
use Rattle.go_embed_core.proofs.laws.hidden_is_told.Goals as goal

pub returns : goal.returns
returns c = hidden_told

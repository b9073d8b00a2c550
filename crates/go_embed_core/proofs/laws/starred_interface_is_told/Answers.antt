use Rattle.go_embed_core.proofs.Telling.{starred_told}
use Rattle.go_embed_core.proofs.laws.starred_interface_is_told.Goals as goal

pub returns : goal.returns
returns c = starred_told

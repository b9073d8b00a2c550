use Rattle.go_embed_core.proofs.Telling.{repeated_told}
use Rattle.go_embed_core.proofs.laws.repeated_is_told.Goals as goal

pub returns : goal.returns
returns c = repeated_told

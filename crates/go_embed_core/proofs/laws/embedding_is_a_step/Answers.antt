use Rattle.go_embed_core.proofs.Steps.{embedding}
use Rattle.go_embed_core.proofs.laws.embedding_is_a_step.Goals as goal

pub returns : goal.returns
returns c = embedding

use Rattle.go_submit_core.proofs.Sounds.{sources_push}
use Rattle.go_submit_core.proofs.laws.batches_replace.Goals as goal

pub returns : goal.returns
returns c = sources_push

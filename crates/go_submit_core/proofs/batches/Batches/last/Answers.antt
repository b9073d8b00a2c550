use Rattle.go_submit_core.proofs.Sounds.{last_sources}
use Rattle.go_submit_core.proofs.batches.Batches.last.Goals as goal

pub returns-clause-sources : goal.returns-clause-sources
returns-clause-sources c = last_sources c.args.self.now c.last_batch.result c.last_batch.ensures.sound c.last_batch.ensures.value

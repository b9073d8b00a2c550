use Rattle.go_meaning_laws.proofs.SourceMeaningSampled.{sample_means}
use Rattle.go_meaning_laws.proofs.source_meaning.laws.sample_means.Goals as goal

pub returns : goal.returns
returns c = sample_means

use Rattle.go_type_core.proofs.Mentioned.{built_mentions_written}
use Rattle.go_type_core.proofs.laws.built_mentions_written.Goals as goal

pub returns : goal.returns
returns c = built_mentions_written

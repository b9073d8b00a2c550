use Rattle.go_universe_core.proofs.Spellings.{names_differ}
use Rattle.go_universe_core.proofs.laws.names_differ.Goals as goal

pub returns : goal.returns
returns c = names_differ

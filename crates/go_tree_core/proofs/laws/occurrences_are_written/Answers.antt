use Rattle.go_tree_core.proofs.Telling.{occurrences_are_written}
use Rattle.go_tree_core.proofs.laws.occurrences_are_written.Goals as goal

pub returns : goal.returns
returns c = occurrences_are_written

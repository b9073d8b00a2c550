use Rattle.go_tree_core.proofs.Telling.{calls_are_occurrences}
use Rattle.go_tree_core.proofs.laws.calls_are_occurrences.Goals as goal

pub returns : goal.returns
returns c = calls_are_occurrences

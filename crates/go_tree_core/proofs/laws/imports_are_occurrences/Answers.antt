use Rattle.go_tree_core.proofs.Telling.{imports_are_occurrences}
use Rattle.go_tree_core.proofs.laws.imports_are_occurrences.Goals as goal

pub returns : goal.returns
returns c = imports_are_occurrences

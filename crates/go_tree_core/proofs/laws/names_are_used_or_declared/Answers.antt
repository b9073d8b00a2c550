use Rattle.go_tree_core.proofs.Telling.{names_are_used_or_declared}
use Rattle.go_tree_core.proofs.laws.names_are_used_or_declared.Goals as goal

pub returns : goal.returns
returns c = names_are_used_or_declared

use Rattle.go_cursor_core.proofs.Occurring.{names_occur}
use Rattle.go_cursor_core.proofs.laws.names_are_occurrences.Goals as goal

pub returns : goal.returns
returns c = names_occur

use Rattle.go_parse_core.proofs.Meanings.{has_one_tree}
use Rattle.go_parse_core.proofs.laws.one_tree.Goals as goal

pub returns : goal.returns
returns c = has_one_tree

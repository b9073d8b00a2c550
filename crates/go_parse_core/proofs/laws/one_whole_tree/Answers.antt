use Rattle.go_parse_core.proofs.LeftOut.{has_one_whole_tree}
use Rattle.go_parse_core.proofs.laws.one_whole_tree.Goals as goal

pub returns : goal.returns
returns c = has_one_whole_tree

use Rattle.go_parse_core.proofs.LeftOut.{marked_is_whole}
use Rattle.go_parse_core.proofs.laws.marked_is_whole.Goals as goal

pub returns : goal.returns
returns c = marked_is_whole

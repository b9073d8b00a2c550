use Rattle.go_parse_core.proofs.LeftOut.{whole_is_marked}
use Rattle.go_parse_core.proofs.laws.whole_is_marked.Goals as goal

pub returns : goal.returns
returns c = whole_is_marked

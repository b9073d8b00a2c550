use Rattle.go_parse_core.proofs.CodeSpelled as lemma
use Rattle.go_parse_core.proofs.laws.names_spelled.Goals as goal

pub returns : goal.returns
returns c = lemma.names_spelled

use Rattle.go_parse_core.proofs.OccurrencesSpelled as lemma
use Rattle.go_parse_core.proofs.laws.occurrences_spelled.Goals as goal

pub returns : goal.returns
returns c = lemma.occurrences_spelled

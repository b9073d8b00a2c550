use Rattle.go_names_core.proofs.OccurrenceLemmas.{uses_are_occurrences}
use Rattle.go_names_core.proofs.laws.uses_are_occurrences.Goals as goal

pub returns : goal.returns
returns c = uses_are_occurrences

use Rattle.go_meaning_laws.proofs.SourceMeaningMeanings.{meant_code_means}
use Rattle.go_meaning_laws.proofs.source_meaning.laws.meant_code_means_the_source.Goals as goal

pub returns : goal.returns
returns c = meant_code_means c.budgets_agree.ensures

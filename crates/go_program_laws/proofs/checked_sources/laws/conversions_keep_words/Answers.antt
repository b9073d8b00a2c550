use Rattle.go_program_laws.proofs.CheckedSourcesCalling.{conversions_keep_words}
use Rattle.go_program_laws.proofs.checked_sources.laws.conversions_keep_words.Goals as goal

pub returns : goal.returns
returns g c = conversions_keep_words _ _ _ _

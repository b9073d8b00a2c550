use Rattle.go_program_laws.proofs.CheckedSourcesSources.{sources_end_well}
use Rattle.go_program_laws.proofs.checked_sources.laws.sources_end_well.Goals as goal

pub returns : goal.returns
returns c = sources_end_well c.functions_end_well.ensures

use Rattle.go_program_laws.proofs.CheckedSourcesVariables.{sources_over_one, variables_over_one}
use Rattle.go_program_laws.proofs.checked_sources.laws.variables_are_over_one_word.Goals as goal

pub returns : goal.returns
returns c = record { files = variables_over_one; sources = sources_over_one }

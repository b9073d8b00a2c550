use Rattle.go_program_laws.proofs.CheckedSourcesInitial.{variables_have_types}
use Rattle.go_program_laws.proofs.checked_sources.laws.variables_have_types.Goals as goal

pub returns : goal.returns
returns c = variables_have_types

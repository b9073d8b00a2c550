use Rattle.go_program_laws.proofs.CheckedSourcesStatements.{conditions_over_bool}
use Rattle.go_program_laws.proofs.checked_sources.laws.conditions_are_over_bool.Goals as goal

pub returns : goal.returns
returns g c = conditions_over_bool _ _ _ _

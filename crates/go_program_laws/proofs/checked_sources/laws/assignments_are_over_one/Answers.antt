use Rattle.go_program_laws.proofs.CheckedSourcesStatements.{assignments_over_one}
use Rattle.go_program_laws.proofs.checked_sources.laws.assignments_are_over_one.Goals as goal

pub returns : goal.returns
returns g c = assignments_over_one _ _ _ _

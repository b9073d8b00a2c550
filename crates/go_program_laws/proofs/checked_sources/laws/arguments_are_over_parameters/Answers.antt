use Rattle.go_program_laws.proofs.CheckedSourcesCalling.{arguments_over_parameters}
use Rattle.go_program_laws.proofs.checked_sources.laws.arguments_are_over_parameters.Goals as goal

pub returns : goal.returns
returns g c = arguments_over_parameters _ _ _ _

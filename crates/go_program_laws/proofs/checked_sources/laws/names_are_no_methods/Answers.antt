use Rattle.go_program_laws.proofs.CheckedSourcesNaming.{names_no_methods}
use Rattle.go_program_laws.proofs.checked_sources.laws.names_are_no_methods.Goals as goal

pub returns : goal.returns
returns g c = names_no_methods _ _ _ _

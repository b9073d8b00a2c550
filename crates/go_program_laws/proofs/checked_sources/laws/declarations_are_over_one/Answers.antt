use Rattle.go_program_laws.proofs.CheckedSourcesStatements.{declarations_over_one}
use Rattle.go_program_laws.proofs.checked_sources.laws.declarations_are_over_one.Goals as goal

pub returns : goal.returns
returns g c = declarations_over_one _ _ _ _

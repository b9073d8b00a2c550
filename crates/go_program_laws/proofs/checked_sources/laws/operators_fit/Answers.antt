use Rattle.go_program_laws.proofs.CheckedSourcesOperators.{operators_fit}
use Rattle.go_program_laws.proofs.checked_sources.laws.operators_fit.Goals as goal

pub returns : goal.returns
returns g c = operators_fit _ _ _ _ c.expressions_are_typed.ensures

use Rattle.go_program_laws.proofs.CheckedSourcesStatements.{returns_over_results}
use Rattle.go_program_laws.proofs.checked_sources.laws.returns_are_over_results.Goals as goal

pub returns : goal.returns
returns g c = returns_over_results _ _ _ _

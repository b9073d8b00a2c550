use Rattle.go_program_laws.proofs.CheckedSourcesStatements.{updates_over_int}
use Rattle.go_program_laws.proofs.checked_sources.laws.updates_are_over_int.Goals as goal

pub returns : goal.returns
returns g c = updates_over_int _ _ _ _

use Rattle.go_program_laws.proofs.CheckedSourcesTypes.{types_keep_basics}
use Rattle.go_program_laws.proofs.checked_sources.laws.types_keep_basics.Goals as goal

pub returns : goal.returns
returns c = types_keep_basics

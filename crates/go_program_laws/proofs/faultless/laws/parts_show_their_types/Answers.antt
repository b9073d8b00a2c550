use Rattle.go_program_laws.proofs.FaultlessShows.{parts_show}
use Rattle.go_program_laws.proofs.faultless.laws.parts_show_their_types.Goals as goal

pub returns : goal.returns
returns c = parts_show c.check_is_local.ensures c.imports_bind_theirs.ensures c.parts_are_read.ensures

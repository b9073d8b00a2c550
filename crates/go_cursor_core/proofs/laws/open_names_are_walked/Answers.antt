use Rattle.go_cursor_core.proofs.Walking.{names_walked}
use Rattle.go_cursor_core.proofs.laws.open_names_are_walked.Goals as goal

pub returns : goal.returns
returns g c = names_walked _ _

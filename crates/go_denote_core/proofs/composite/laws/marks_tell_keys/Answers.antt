use Rattle.go_denote_core.proofs.CompositeMarking.{marks_tell}
use Rattle.go_denote_core.proofs.composite.laws.marks_tell_keys.Goals as goal

pub returns : goal.returns
returns g c = marks_tell

use Rattle.go_denote_core.proofs.CompositeRepeatLaws.{repeated_names}
use Rattle.go_denote_core.proofs.composite.laws.repeated_names.Goals as goal

pub returns : goal.returns
returns c = repeated_names

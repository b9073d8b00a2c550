use Rattle.go_reference_core.proofs.OutlineOwning.{names_are_declared}
use Rattle.go_reference_core.proofs.outline.laws.names_are_declared.Goals as goal

pub returns : goal.returns
returns c = names_are_declared

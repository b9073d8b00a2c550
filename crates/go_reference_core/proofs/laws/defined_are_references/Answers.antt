use Rattle.go_reference_core.proofs.Joined.{defined_are_references}
use Rattle.go_reference_core.proofs.laws.defined_are_references.Goals as goal

pub returns : goal.returns
returns c = defined_are_references

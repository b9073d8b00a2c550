use Rattle.go_digraph_core.proofs.NeedsNeeded.{endless_never}
use Rattle.go_digraph_core.proofs.needs.laws.endless_never_ends.Goals as goal

pub returns : goal.returns
returns c = endless_never

use Rattle.go_reference_core.proofs.RenameCounted.{lies_where_moved}
use Rattle.go_reference_core.proofs.rename.names.offsets_lie_where_moved.Goals as goal

pub returns : goal.returns
returns c = lies_where_moved

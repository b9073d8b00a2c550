use Rattle.go_block_core.proofs.OrderLaws.{bindings_in_order}
use Rattle.go_block_core.proofs.laws.bindings_are_in_order.Goals as goal

pub returns : goal.returns
returns c = bindings_in_order

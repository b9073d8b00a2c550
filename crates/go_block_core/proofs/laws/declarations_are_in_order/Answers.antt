use Rattle.go_block_core.proofs.OrderLaws.{declarations_in_order}
use Rattle.go_block_core.proofs.laws.declarations_are_in_order.Goals as goal

pub returns : goal.returns
returns c = declarations_in_order

use Rattle.go_block_core.proofs.OneBlocks.{one_blocks_alone}
use Rattle.go_block_core.proofs.laws.one_blocks_alone.Goals as goal

pub returns : goal.returns
returns c = one_blocks_alone

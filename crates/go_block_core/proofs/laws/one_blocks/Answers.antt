use Rattle.go_block_core.proofs.OneBlocks.{one_blocks}
use Rattle.go_block_core.proofs.laws.one_blocks.Goals as goal

pub returns : goal.returns
returns c = one_blocks

use Rattle.go_block_core.proofs.OneBlocks.{alone_is_whole}
use Rattle.go_block_core.proofs.laws.alone_is_whole.Goals as goal

pub returns : goal.returns
returns c = alone_is_whole

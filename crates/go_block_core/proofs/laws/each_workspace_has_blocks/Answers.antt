use Rattle.go_block_core.proofs.HasBlocks.{has_blocks}
use Rattle.go_block_core.proofs.laws.each_workspace_has_blocks.Goals as goal

pub returns : goal.returns
returns c = has_blocks

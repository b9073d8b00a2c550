use Rattle.std.proofs.Common.{◌≡◌, map, take}
use Rattle.go_scope_stack.specs.Blocks.{block_of}
use Rattle.go_scope_stack.proofs.OpenBlocks.copy.Given as goal

abbrev pub invariant-loop-block : goal.invariant-loop-block
invariant-loop-block l = map block_of l.blocks.items ≡ map block_of (take l.block-index l.block-items)

use Rattle.std.proofs.Common.{◌≡◌, [], map, drop}
use Rattle.go_scope_stack.specs.Blocks.{block_of, all_names, list_names}
use Rattle.go_scope_stack.proofs.OpenBlocks.names.Given as goal

abbrev pub invariant-loop-block : goal.invariant-loop-block
invariant-loop-block l = list_names l.names (all_names (map block_of (drop l.block-index l.block-items))) ≡ list_names [] (all_names (map block_of l.block-items))

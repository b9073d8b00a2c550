use Rattle.std.proofs.Common.{◌≡◌, ◌++◌, take}
use Rattle.go_constant_core.proofs.pieces.add_blocks.Given as goal

abbrev pub invariant-loop-block : goal.invariant-loop-block
invariant-loop-block l = l.blocks.items ≡ l.initial.blocks.items ++ take l.block-index l.more

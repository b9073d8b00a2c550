use Rattle.std.proofs.Common.{rules, ◌<◌, length}
use Rattle.std.specs.List.{concat}
use Rattle.go_constant_core.proofs.Joined.{next_of}
use Rattle.go_constant_core.proofs.texts.bytes_of.Goals as goal

pub loop-block-preserved : goal.loop-block-preserved
loop-block-preserved c =
    let lt : c.loop-block.block-index < length c.blocks-blocks.result.now = search rules in
    next_of c.loop-block.bytes.items c.add_bytes.new.bytes.items c.blocks-blocks.result.now c.loop-block.block-index c.block-item.result (concat c.pieces.result.now) lt c.block-item.is c.loop-block.invariant c.pieces.ensures c.in_ok-add_bytes.ensures

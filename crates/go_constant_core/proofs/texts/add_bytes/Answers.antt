use Rattle.std.proofs.Common.{rules, ◌<◌, length}
use Rattle.go_constant_core.proofs.Joined.{add_next}
use Rattle.go_constant_core.proofs.texts.add_bytes.Goals as goal

pub loop-piece-preserved : goal.loop-piece-preserved
loop-piece-preserved c =
    let lt : c.loop-piece.piece-index < length c.args.pieces.now = search rules in
    add_next c.args.bytes.now.items c.loop-piece.bytes.items _ c.args.pieces.now c.loop-piece.piece-index c.piece-item.result c.bytes.result.now lt c.piece-item.is c.loop-piece.invariant c.bytes.ensures c.in_ok-extend_from_slice.ensures.items

use Rattle.std.proofs.Common.{◌≡◌, take}
use Rattle.go_submit_core.proofs.piece.shared_pieces.Given as goal

abbrev pub invariant-loop-piece : goal.invariant-loop-piece
invariant-loop-piece l = l.shared.items ≡ take l.piece-index l.pieces
